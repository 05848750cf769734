use Rattle.std.proofs.Common.{rules, arith, ◌≡◌, false, ℕ, List, pos, ◌-ℤ◌, length, slice_index, take, to_z, of_z, ap, sym, subst, ◌∙◌}
use Rattle.std.specs.Int.{w128}
use Rattle.cef_minor.specs.Kept.{low_of, high_of}
use Rattle.cef_minor.specs.Planes.{are_fixed}
use Rattle.cef_minor.proofs.Arrays.{products_fit, sloping_constant}
use Rattle.cef_minor.proofs.plane.raise_plane.Goals as goal

pub raise_form-requires-clause-products : goal.raise_form-requires-clause-products
raise_form-requires-clause-products c = products_fit c.args.frame (length c.args.slopes.now) c.args.form (take c.args.count c.args.sites.now) c.requires.array

pub returns-clause-constant : goal.returns-clause-constant
returns-clause-constant c =
    let parts_is : to_z w128 (of_z w128 c.raise_form.result) ≡ c.raise_form.result = search rules in
    let out_is : to_z w128 (of_z w128 c.lowered.result) ≡ c.lowered.result = search rules in
    let lowered = rw parts_is at c.lowered.ensures in
    let not_fixed : false ≡ are_fixed (low_of c.args.frame) (high_of c.args.frame) (take c.args.count c.args.sites.now) = sym c.if-are_fixed.false ∙ c.are_fixed.ensures ∙ ap (λ (s : List ℕ). are_fixed (low_of c.args.frame) (high_of c.args.frame) s) c.split_at.ensures.front in
    out_is ∙ lowered ∙ sloping_constant c.args.frame (length c.args.slopes.now) c.args.form (take c.args.count c.args.sites.now) c.raise_form.result c.requires.array not_fixed c.raise_form.ensures.parts
