-- What a reader found of a form.
use Rattle.std.specs.Prelude.{List, [], ◌∷◌, Option, Some, None}
use Rattle.std.specs.Option.{option_map, option_and_then}

-- a value that has the form, or none, where no value has it
abbrev pub Finds : {A : Type 0} → (A → Type 0) → Option A → Type 0
Finds Form (Some v) = Form v
Finds {A = A} Form None = (v : A) → Form v → ⊥

-- each element as what it says, or none where an element says nothing
unfoldable pub each : {A B : Type 0} → (A → Option B) → List A → Option (List B)
each f [] = Some []
each f (x ∷ xs) = option_and_then (λ y. option_map (λ ys. y ∷ ys) (each f xs)) (f x)
