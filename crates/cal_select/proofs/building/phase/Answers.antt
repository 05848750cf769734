use Rattle.std.proofs.Common.{◌≡◌, ◌∙◌, ◌++◌, ◌^◌, [], ℕ, sym, ap, subst, List, Option}
use Rattle.std.specs.Prelude.{is_some}
use Rattle.std.specs.List.{flat_map}
use Rattle.cal_dec.specs.declared.dec.Dec.{Dec}
use Rattle.cef_core.specs.declared.phase.MagneticAt.{MagneticAt}
use Rattle.tdb_read.specs.declared.type_definition.TypeText.{TypeText}
use Rattle.cal_select.specs.declared.fault.SystemFault.{SystemFault}
use Rattle.cal_select.specs.Wholes.{whole_ratios}
use Rattle.cal_select.specs.Types.{applying, magnetic_of}
use Rattle.cal_select.specs.Parameters.{needed_of, parameters_of}
use Rattle.cal_select.specs.Causes.{type_causes, parameter_causes}
use Rattle.cal_select.specs.Chosen.{Word, PhaseEntry, all_kept_of, sites_at}
use Rattle.cal_select.specs.Selection.{decimals_in, scale_of, is_magnetic, kept_in, parameters_at}
use Rattle.cal_select.specs.Measures.{StandAt}
use Rattle.cal_select.proofs.Made.{kept_short, narrow_sum}
use Rattle.cal_select.proofs.Measured.{selected_sites}
use Rattle.cal_select.proofs.building.phase.Goals as goal

pub parameters-requires-clause-kept : goal.parameters-requires-clause-kept
parameters-requires-clause-kept c =
    let components = c.args.source.now.components.now in
    let sites = c.args.text.now.sites in
    let e : c.as_slice-3.result.now ≡ all_kept_of components sites =
    c.as_slice-3.ensures ∙ (c.in_ok-kept.ensures ∙ ap (λ (lists : List (List Word)). all_kept_of components lists) c.as_slice.ensures) in
    rw e (kept_short components sites c.requires.components c.requires.text.sites)

pub parameters-requires-clause-places : goal.parameters-requires-clause-places
parameters-requires-clause-places c =
    subst (λ (places : List ℕ). StandAt c.args.source.now.db.now c.args.name.now places) (sym c.places_of.ensures) (c.requires.groups c.args.name.now)

pub whole_ratios-requires-clause-narrow : goal.whole_ratios-requires-clause-narrow
whole_ratios-requires-clause-narrow c =
    let ratios = c.args.text.now.ratios in
    let d : c.unwrap_or-decimals.result ≡ decimals_in ratios = cc in
    rw (d, c.as_slice-in-Ok.ensures) (narrow_sum ratios c.requires.narrow)

pub returns-clause-measured : goal.returns-clause-measured
returns-clause-measured c =
    let ratios = c.args.text.now.ratios in
    let components = c.args.source.now.components.now in
    let sites = c.args.text.now.sites in
    let d : c.unwrap_or-decimals.result ≡ decimals_in ratios = cc in
    let kept : c.as_slice-in-Ok-2.result.now ≡ all_kept_of components sites =
    c.as_slice-in-Ok-2.ensures ∙ (c.in_ok-kept.ensures ∙ ap (λ (lists : List (List Word)). all_kept_of components lists) c.as_slice.ensures) in
    record {
      hottest = c.requires.job.hottest;
      scale = c.power_of_ten-scale.ensures.most;
      ratios = rw (c.in_ok-ratios-in-Ok.ensures, d, c.as_slice-in-Ok.ensures) (narrow_sum ratios c.requires.narrow);
      sites = rw (c.in_ok-sites-in-Ok.ensures, kept) (selected_sites components c.args.text.now c.requires.selected);
    }

pub returns-clause-gives : goal.returns-clause-gives
returns-clause-gives c = λ outcome are.
    let db = c.args.source.now.db.now in
    let job = c.args.source.now.job.now in
    let components = c.args.source.now.components.now in
    let text = c.args.text.now in
    let e : PhaseEntry = (c.args.name.now, text) in
    let of_sites = c.in_ok-kept.ensures ∙ ap (λ (lists : List (List Word)). all_kept_of components lists) c.as_slice.ensures in
    let kept : c.as_slice-3.result.now ≡ kept_in components e = c.as_slice-3.ensures ∙ of_sites in
    let kept_again : c.as_slice-in-Ok-2.result.now ≡ kept_in components e = c.as_slice-in-Ok-2.ensures ∙ of_sites in
    let magnetic : c.magnetic-magnetic.result ≡ magnetic_of db.types e = c.magnetic-magnetic.ensures.value ∙ ap (λ (texts : List TypeText). magnetic_of texts e) c.types-2.ensures.types in
    let effect : c.is_some.result ≡ is_magnetic db e = c.is_some.ensures ∙ ap (λ (m : Option MagneticAt). is_some m) magnetic in
    let d : c.unwrap_or-decimals.result ≡ decimals_in text.ratios = cc in
    let scale : c.power_of_ten-scale.result ≡ scale_of text.ratios = c.power_of_ten-scale.ensures.value ∙ ap (λ (n : ℕ). 10 ^ n) d in
    let ratios = c.in_ok-ratios-in-Ok.ensures ∙ (ap (λ (n : ℕ). whole_ratios n c.as_slice-in-Ok.result.now) d ∙ ap (λ (rs : List Dec). whole_ratios (decimals_in text.ratios) rs) c.as_slice-in-Ok.ensures) in
    let sites = c.in_ok-sites-in-Ok.ensures ∙ ap (λ (lists : List (List Word)). sites_at components lists) kept_again in
    let plain : type_causes (applying db.types e) ≡ [] = subst (λ (texts : List TypeText). type_causes (applying texts e) ≡ []) c.types.ensures.types c.in_default.ensures in
    let given = c.in-Ok.ensures.gives outcome are in
    let made : (flat_map (parameter_causes outcome (kept_in components e)) (needed_of (is_magnetic db e) (kept_in components e) (parameters_of db e.0)) ≡ []) × (c.in-Ok.field-0.value ≡ parameters_at outcome db components e) = rw (kept, effect, scale) at given in (
      ap (λ (causes : List SystemFault). causes ++ flat_map (parameter_causes outcome (kept_in components e)) (needed_of (is_magnetic db e) (kept_in components e) (parameters_of db e.0))) plain ∙ made.0,
      λ i. record { name = c.in_ok-name-in-Ok.ensures i; t = job.t; lattice = job.lattice; scale = scale i; ratios = ratios i; sites = sites i; parameters = made.1 i; magnetic = magnetic i },
    )
