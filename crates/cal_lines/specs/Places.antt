-- Places in a text, as contracts see them.
use Rattle.std.specs.Prelude.{◌≡◌, ℕ, List, Option, Result, IfOk}
use Rattle.std.specs.Borrow.{Bor}
use Rattle.std.specs.declared.alloc.AllocError.{AllocError}
use Rattle.cal_scan.specs.Lines.{Word, texts}
use Rattle.cal_lines.specs.declared.fault.TextFault.{TextFault}
use Rattle.cal_lines.specs.declared.place.Place.{Place}
use Rattle.cal_lines.specs.Reading.{Lines, Read, Gives, lines_of}

-- the lines from a place on
abbrev pub place : Place → Lines
place p = (p.number, lines_of p.rest.now)

-- what was returned, a value and the place behind it, is what reading gives at the place, unless memory ran out
abbrev pub ReadsAt : {A : Type 0} → Result (A × Place) TextFault → Read A → Place → Type 0
ReadsAt result read at = Gives (λ x. (x.0, place x.1)) result (read (place at))

-- the same of a value that is seen by view
abbrev pub ReadsAs : {A B : Type 0} → (A → B) → Result (A × Place) TextFault → Read B → Place → Type 0
ReadsAs view result read at = Gives (λ x. (view x.0, place x.1)) result (read (place at))

-- each answer of a parser of words, unless memory ran out, is their meaning
abbrev pub Means : {A : Type 0} → (Bor (List (Bor (List ℕ))) → Result (Option A) AllocError → Type 0) → (List Word → Option A) → Type 0
Means {A = A} answers meaning = (words : Bor (List (Bor (List ℕ)))) (o : Result (Option A) AllocError) → answers words o → IfOk o (λ v. v ≡ meaning (texts words.now))
