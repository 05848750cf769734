use Rattle.std.proofs.Common.{◌≡◌, length, rules, SFits, ap, sym, ◌∙◌, List}
use Rattle.std.specs.Prelude.{ℤ}
use Rattle.std.specs.Int.{w128}
use Rattle.std.proofs.lemmas.Int.{to_z-of_z}
use Rattle.cal_math.specs.Vectors.{at, dot}
use Rattle.lp_stage.specs.Leaving.{start_product}
use Rattle.lp_basis.proofs.Lists.{each_pushed}
use Rattle.lp_stage.proofs.RatioTest.{amounts_read}
use Rattle.lp_stage.proofs.leaving.list_of.Goals as goal

pub product-number-requires : goal.product-number-requires
product-number-requires c =
    let read = amounts_read c.args.starts.now c.starts.k c.index-starts-k.result c.starts-test.true c.index-starts-k.is in
    (c.requires.0, c.requires.1, rw (read, ← c.deref.ensures.value) at (c.requires.2 c.starts.k c.starts-test.true))

pub starts-preserved : goal.starts-preserved
starts-preserved c =
    let read = amounts_read c.args.starts.now c.starts.k c.index-starts-k.result c.starts-test.true c.index-starts-k.is in
    let fits : SFits w128 c.product-number.result = search rules in
    let is = c.product-number.ensures ∙ ap (λ (xs : List ℤ). dot (length c.args.row.now) (at c.args.row.now) (at xs)) (c.deref.ensures.value ∙ sym read) in
    let items = simp to_z-of_z at c.in_ok-push.ensures.items in
    record {
      sized = search rules;
      every = each_pushed (λ k v. v ≡ start_product (length c.args.row.now) c.args.starts.now c.args.row.now k) c.starts.list.items c.push.new.self.items c.product-number.result c.starts.k c.starts.invariant.sized items c.starts.invariant.every is;
    }
