-- What the calls of the outside say: which bytes, and why a call failed.
use Rattle.std.specs.Prelude.{◌≡◌, ℕ, ◌+◌, ◌-◌, ◌^◌, ◌≤◌, min, List, ◌++◌, Option, Some, None, Result, Ok, Err, take, drop, length, ◌⊎◌}
use Rattle.std.specs.Option.{option_map}
use Rattle.cal_base.specs.declared.fault.Failed.{Failed}

-- the last number of a count
abbrev pub last_count : ℕ
last_count = 2 ^ 64 - 1

-- the number behind this one, or the last
abbrev pub next_count : ℕ → ℕ
next_count n = min (n + 1) last_count

-- the count rose, or stands at its last number
abbrev pub Rose : ℕ → ℕ → Type 0
Rose before now = next_count before ≤ now

-- the bytes of each name that is there
abbrev pub Files : Type 0
Files = List ℕ → Option (List ℕ)

-- the library tells that the file has these bytes
abbrev pub TellsFile : Option Files → List ℕ → List ℕ → Type 0
TellsFile None name bytes = ⊥
TellsFile (Some files) name bytes = files name ≡ Some bytes

-- the library tells that there is no such file
abbrev pub LacksFile : Option Files → List ℕ → Type 0
LacksFile None name = ⊥
LacksFile (Some files) name = files name ≡ None

-- n of the bytes were read from this place on, and none only at or behind the end
pub record Reads (bytes : List ℕ) (from n : ℕ) (buf : List ℕ) : Type 0 where
  pub read : take n buf ≡ take n (drop from bytes)
  pub within : from + n ≤ length bytes ⊎ (n ≡ 0)
  pub none : n ≡ 0 → length bytes ≤ from

-- a number of bytes rose by n, or stands at its last number
abbrev pub Raised : ℕ → ℕ → ℕ → Type 0
Raised before now n = (min (before + n) last_count ≤ now) × (now ≤ before + n)

-- it rose by what was read
abbrev pub RaisedBy : ℕ → ℕ → Result ℕ Failed → Type 0
RaisedBy before now (Ok n) = Raised before now n
RaisedBy before now (Err e) = now ≡ before

-- the bytes behind the earlier ones, where they are told
abbrev pub append_told : Option (List ℕ) → List ℕ → Option (List ℕ)
append_told told bytes = option_map (λ before. before ++ bytes) told

-- the front that was taken stands behind the earlier bytes
abbrev pub Appends : Option (List ℕ) → Option (List ℕ) → Result ℕ Failed → List ℕ → Type 0
Appends old new (Ok n) piece = new ≡ append_told old (take n piece)
Appends old new (Err e) piece = new ≡ old

-- of these bytes all but the rest were appended
pub record AppendsAllBut (rest : List ℕ) (old new : Option (List ℕ)) (bytes : List ℕ) : Type 0 where
  pub done : List ℕ
  pub parts : done ++ rest ≡ bytes
  pub taken : new ≡ append_told old done

-- the bytes begin with this front
pub record IsFront (bytes front : List ℕ) : Type 0 where
  pub rest : List ℕ
  pub parts : front ++ rest ≡ bytes
