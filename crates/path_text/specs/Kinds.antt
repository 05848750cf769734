-- What the words of each kind of line of a path say.
use Rattle.std.specs.Prelude.{ℕ, List, [], ◌∷◌, Option, Some, None, cond, nat_lt, codes}
use Rattle.cal_limits.specs.declared.TheConstants.{HIGHEST_TEMPERATURE}
use Rattle.cal_scan.specs.Words.{same_word, is_name}
use Rattle.cal_scan.specs.Lines.{Word}
use Rattle.eq_text.specs.Kinds.{only_if, natural_after, is_temperature}
use Rattle.cef_path.specs.declared.finish.Finish.{Finish}
use Rattle.cef_path.specs.declared.finish.Finish.TheVariants.{NoLiquid, Fraction, Temperature}

-- a key and one name
unfoldable pub name_after : Word → List Word → Option Word
name_after key (w ∷ n ∷ []) = cond (same_word w key) (cond (is_name n) (Some n) None) None
name_after key _ = None

-- a key and a number from 1 to the limit
unfoldable pub positive_after : Word → ℕ → List Word → Option ℕ
positive_after key limit ws = only_if (nat_lt 0) (natural_after key limit ws)

unfoldable pub floor_of : List Word → Option ℕ
floor_of ws = only_if is_temperature (natural_after (codes "floor") HIGHEST_TEMPERATURE ws)

unfoldable pub finish_named : Word → Option Finish
finish_named w =
    cond (same_word w (codes "no-liquid")) (Some NoLiquid)
    (cond (same_word w (codes "fraction")) (Some Fraction)
    (cond (same_word w (codes "temperature")) (Some Temperature) None))

unfoldable pub finish_of : List Word → Option Finish
finish_of (w ∷ v ∷ []) = cond (same_word w (codes "finish")) (finish_named v) None
finish_of _ = None
