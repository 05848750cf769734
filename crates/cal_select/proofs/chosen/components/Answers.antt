use Rattle.std.proofs.Common.{◌≡◌, ◌++◌, ◌∷◌, [], ◌≤◌, length, arith, sym, ap, ◌∙◌, map, List, ℕ, take}
use Rattle.std.specs.Prelude.{filter}
use Rattle.std.proofs.lemmas.List.{take_all}
use Rattle.cal_select.specs.Chosen.{is_in, Word}
use Rattle.std.specs.Map.{keys_of}
use Rattle.cal_select.proofs.Chosen_sites.{few_components}
use Rattle.cal_select.proofs.Taken.{kept-next, left_out-next}
use Rattle.cal_select.proofs.Kept_lists.{filter-map}
use Rattle.cal_select.proofs.chosen.components.Goals as goal
use Rattle.cal_select.proofs.chosen.components.Goals.{then-is_in+in_ok-copy+in_ok-push, else-is_in}

pub elements-preserved : goal.elements-preserved
elements-preserved c =
    let asked = c.args.asked.now in
    let db = c.args.db.now in
    elim c.if-is_in.branch [
      | then-is_in+in_ok-copy+in_ok-push w ↦
          rw w.names-is (kept-next (λ (e : Word × ℕ). e.0) (λ e. is_in asked e.0) db.elements c.elements.place (c.element_at.result.0.now, c.element_at.result.1) c.elements.names _ c.element_at.ensures.entry
          (sym c.is_in.ensures ∙ w.if-is_in.true) c.elements.invariant (w.in_ok-push.ensures.ok ∙ ap (λ (name : Word). c.elements.names ++ name ∷ []) w.in_ok-copy.ensures))
      | else-is_in w ↦
          rw w.names-is (left_out-next (λ (e : Word × ℕ). e.0) (λ e. is_in asked e.0) db.elements c.elements.place (c.element_at.result.0.now, c.element_at.result.1) c.elements.names c.element_at.ensures.entry
          (sym c.is_in.ensures ∙ w.if-is_in.false) c.elements.invariant)
    ]

whole : (asked elements_names : List Word) (elements : List (Word × ℕ)) (place : ℕ) → length elements ≤ place → elements_names ≡ map (λ (e : Word × ℕ). e.0) (filter (λ e. is_in asked e.0) (take place elements)) → elements_names ≡ filter (is_in asked) (keys_of elements)
whole asked elements_names elements place passed is =
    is ∙ ap (λ (es : List (Word × ℕ)). map (λ (e : Word × ℕ). e.0) (filter (λ e. is_in asked e.0) es)) (take_all place elements passed)
    ∙ sym (filter-map (λ (e : Word × ℕ). e.0) (is_in asked) elements)

pub returns-clause-value : goal.returns-clause-value
returns-clause-value c =
    let passed : length c.args.db.now.elements ≤ c.elements.place = omega (arith, c.elements-test.false, c.element_count-place-end.ensures.count) in
    whole c.args.asked.now c.elements.names c.args.db.now.elements c.elements.place passed c.elements.invariant

pub returns-clause-few : goal.returns-clause-few
returns-clause-few c =
    let passed : length c.args.db.now.elements ≤ c.elements.place = omega (arith, c.elements-test.false, c.element_count-place-end.ensures.count) in
    let is = whole c.args.asked.now c.elements.names c.args.db.now.elements c.elements.place passed c.elements.invariant in
    omega (arith, ap length is, few_components c.args.asked.now (keys_of c.args.db.now.elements) c.element_count-place-end.ensures.distinct)
