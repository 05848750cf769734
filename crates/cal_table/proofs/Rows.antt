-- records as `csv` writes them
use Rattle.std.proofs.Common.{◌≡◌, ◌≢◌, ℕ, List, [], ◌∷◌, ◌++◌, refl, ap, ◌∙◌, arith}
use Rattle.std.specs.List.{join_with_byte, AllByRecursion}
use Rattle.std.proofs.lemmas.List.{append-nil}
use Rattle.csv.specs.Writing.{row_text, fields_text, field_text, is_blank, default_writer}
use Rattle.csv.specs.declared.writer.QuoteStyle.TheVariants as style
use Rattle.cal_table.specs.Tables.{Field, row}
use Rattle.cal_table.specs.Records.{IsPlain, ArePlain}

plain_text : (field : Field) → IsPlain field → field_text default_writer field ≡ field
plain_text field plain = rw plain refl

joined : (w : Field) (ws : List Field) → AllByRecursion IsPlain ws → w ++ fields_text default_writer ws ≡ join_with_byte 44 (w ∷ ws)
unfolding fields_text
joined w [] plain = append-nil w
joined w (v ∷ ws) plain =
    ap (λ (z : List ℕ). w ++ 44 ∷ (z ++ fields_text default_writer ws)) (plain_text v plain.0)
    ∙ ap (λ (z : List ℕ). w ++ 44 ∷ z) (joined v ws plain.1)

-- fields without quotes stand as they are, with a comma between them
pub row_same : (fields : List Field) → ArePlain fields → row_text default_writer fields ≡ row fields
unfolding row is_blank
row_same [] are = let some = are.several in absurd (omega (arith, some))
row_same (a ∷ []) are = let some = are.several in absurd (omega (arith, some))
row_same (a ∷ b ∷ rest) are =
    let plain = are.plain in
    ap (λ (z : List ℕ). (z ++ fields_text default_writer (b ∷ rest)) ++ 10 ∷ []) (plain_text a plain.0)
    ∙ ap (λ (z : List ℕ). z ++ 10 ∷ []) (joined a (b ∷ rest) plain.1)

-- the default writer quotes by the bytes of a field alone
pub not_by_number : style.Necessary ≢ style.NonNumeric
not_by_number e = cc
