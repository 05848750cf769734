use Rattle.std.proofs.Common.{rules, arith, ◌≡◌, ℕ, List, ℤ, [], ◌∷◌, ◌++◌, ◌+◌, ◌+ℤ◌, pos, negsuc, slice_index_or, take, to_z, of_z, ap, sym, refl, ◌∙◌, unsigned_abs, ◌≤◌, ◌^◌}
use Rattle.std.specs.Int.{w128}
use Rattle.std.proofs.lemmas.Int.{ints}
use Rattle.cef_minor.specs.Kept.{low_of, high_of, part_of}
use Rattle.cef_minor.specs.Products.{times}
use Rattle.cef_minor.specs.Slopes.{site_slope, slopes_of_product}
use Rattle.cef_minor.proofs.Sums.{held, sum_fits, sum_held, raised_first, raised_last, five_add}
use Rattle.cef_minor.proofs.sloping.raise_form.Goals as goal

pub overflow_add-result-in-Weighted : goal.overflow_add-result-in-Weighted
overflow_add-result-in-Weighted c =
    let h3 : to_z w128 (of_z w128 c.raise_with-three.result) ≡ c.raise_with-three.result = held c.raise_with-three.result (omega (arith, c.raise_with-three.ensures.size)) in
    sum_fits c.raise_with-two.result c.raise_with-three.result c.raise_with-three.result (omega (arith, c.raise_with-two.ensures.size)) h3 (omega (arith, c.raise_with-three.ensures.size))

pub overflow_add-result-in-Weighted-2 : goal.overflow_add-result-in-Weighted-2
overflow_add-result-in-Weighted-2 c =
    let h3 : to_z w128 (of_z w128 c.raise_with-three.result) ≡ c.raise_with-three.result = held c.raise_with-three.result (omega (arith, c.raise_with-three.ensures.size)) in
    let h2 : to_z w128 (of_z w128 (to_z w128 (of_z w128 c.raise_with-two.result) +ℤ to_z w128 (of_z w128 c.raise_with-three.result))) ≡ (c.raise_with-two.result +ℤ c.raise_with-three.result) = sum_held c.raise_with-two.result c.raise_with-three.result c.raise_with-three.result (omega (arith, c.raise_with-two.ensures.size)) h3 (omega (arith, c.raise_with-three.ensures.size)) in
    sum_fits c.raise_with-one.result (to_z w128 (of_z w128 c.raise_with-two.result) +ℤ to_z w128 (of_z w128 c.raise_with-three.result)) (c.raise_with-two.result +ℤ c.raise_with-three.result) (omega (arith, c.raise_with-one.ensures.size)) h2 (omega (arith, ints, c.raise_with-three.ensures.size, c.raise_with-two.ensures.size))

pub overflow_add-result-in-Weighted-3 : goal.overflow_add-result-in-Weighted-3
overflow_add-result-in-Weighted-3 c =
    let h3 : to_z w128 (of_z w128 c.raise_with-three.result) ≡ c.raise_with-three.result = held c.raise_with-three.result (omega (arith, c.raise_with-three.ensures.size)) in
    let h2 : to_z w128 (of_z w128 (to_z w128 (of_z w128 c.raise_with-two.result) +ℤ to_z w128 (of_z w128 c.raise_with-three.result))) ≡ (c.raise_with-two.result +ℤ c.raise_with-three.result) = sum_held c.raise_with-two.result c.raise_with-three.result c.raise_with-three.result (omega (arith, c.raise_with-two.ensures.size)) h3 (omega (arith, c.raise_with-three.ensures.size)) in
    let h1 : to_z w128 (of_z w128 (to_z w128 (of_z w128 c.raise_with-one.result) +ℤ to_z w128 (of_z w128 (to_z w128 (of_z w128 c.raise_with-two.result) +ℤ to_z w128 (of_z w128 c.raise_with-three.result))))) ≡ (c.raise_with-one.result +ℤ (c.raise_with-two.result +ℤ c.raise_with-three.result)) = sum_held c.raise_with-one.result (to_z w128 (of_z w128 c.raise_with-two.result) +ℤ to_z w128 (of_z w128 c.raise_with-three.result)) (c.raise_with-two.result +ℤ c.raise_with-three.result) (omega (arith, c.raise_with-one.ensures.size)) h2 (omega (arith, ints, c.raise_with-three.ensures.size, c.raise_with-two.ensures.size)) in
    sum_fits c.raise_product-scaled.result (to_z w128 (of_z w128 c.raise_with-one.result) +ℤ to_z w128 (of_z w128 (to_z w128 (of_z w128 c.raise_with-two.result) +ℤ to_z w128 (of_z w128 c.raise_with-three.result)))) (c.raise_with-one.result +ℤ (c.raise_with-two.result +ℤ c.raise_with-three.result)) (omega (arith, c.raise_product-scaled.ensures.size)) h1 (omega (arith, ints, c.raise_with-three.ensures.size, c.raise_with-two.ensures.size, c.raise_with-one.ensures.size))

pub overflow_add-result-in-Weighted-4 : goal.overflow_add-result-in-Weighted-4
overflow_add-result-in-Weighted-4 c =
    let h3 : to_z w128 (of_z w128 c.raise_with-three.result) ≡ c.raise_with-three.result = held c.raise_with-three.result (omega (arith, c.raise_with-three.ensures.size)) in
    let h2 : to_z w128 (of_z w128 (to_z w128 (of_z w128 c.raise_with-two.result) +ℤ to_z w128 (of_z w128 c.raise_with-three.result))) ≡ (c.raise_with-two.result +ℤ c.raise_with-three.result) = sum_held c.raise_with-two.result c.raise_with-three.result c.raise_with-three.result (omega (arith, c.raise_with-two.ensures.size)) h3 (omega (arith, c.raise_with-three.ensures.size)) in
    let h1 : to_z w128 (of_z w128 (to_z w128 (of_z w128 c.raise_with-one.result) +ℤ to_z w128 (of_z w128 (to_z w128 (of_z w128 c.raise_with-two.result) +ℤ to_z w128 (of_z w128 c.raise_with-three.result))))) ≡ (c.raise_with-one.result +ℤ (c.raise_with-two.result +ℤ c.raise_with-three.result)) = sum_held c.raise_with-one.result (to_z w128 (of_z w128 c.raise_with-two.result) +ℤ to_z w128 (of_z w128 c.raise_with-three.result)) (c.raise_with-two.result +ℤ c.raise_with-three.result) (omega (arith, c.raise_with-one.ensures.size)) h2 (omega (arith, ints, c.raise_with-three.ensures.size, c.raise_with-two.ensures.size)) in
    let h0 : to_z w128 (of_z w128 (to_z w128 (of_z w128 c.raise_product-scaled.result) +ℤ to_z w128 (of_z w128 (to_z w128 (of_z w128 c.raise_with-one.result) +ℤ to_z w128 (of_z w128 (to_z w128 (of_z w128 c.raise_with-two.result) +ℤ to_z w128 (of_z w128 c.raise_with-three.result))))))) ≡ (c.raise_product-scaled.result +ℤ (c.raise_with-one.result +ℤ (c.raise_with-two.result +ℤ c.raise_with-three.result))) = sum_held c.raise_product-scaled.result (to_z w128 (of_z w128 c.raise_with-one.result) +ℤ to_z w128 (of_z w128 (to_z w128 (of_z w128 c.raise_with-two.result) +ℤ to_z w128 (of_z w128 c.raise_with-three.result)))) (c.raise_with-one.result +ℤ (c.raise_with-two.result +ℤ c.raise_with-three.result)) (omega (arith, c.raise_product-scaled.ensures.size)) h1 (omega (arith, ints, c.raise_with-three.ensures.size, c.raise_with-two.ensures.size, c.raise_with-one.ensures.size)) in
    sum_fits c.raise_with-tripled.result (to_z w128 (of_z w128 c.raise_product-scaled.result) +ℤ to_z w128 (of_z w128 (to_z w128 (of_z w128 c.raise_with-one.result) +ℤ to_z w128 (of_z w128 (to_z w128 (of_z w128 c.raise_with-two.result) +ℤ to_z w128 (of_z w128 c.raise_with-three.result)))))) (c.raise_product-scaled.result +ℤ (c.raise_with-one.result +ℤ (c.raise_with-two.result +ℤ c.raise_with-three.result))) (omega (arith, c.raise_with-tripled.ensures.size)) h0 (omega (arith, ints, c.raise_with-three.ensures.size, c.raise_with-two.ensures.size, c.raise_with-one.ensures.size, c.raise_product-scaled.ensures.size))

pub returns-in-Weighted-clause-size : goal.returns-in-Weighted-clause-size
returns-in-Weighted-clause-size c =
    let h3 : to_z w128 (of_z w128 c.raise_with-three.result) ≡ c.raise_with-three.result = held c.raise_with-three.result (omega (arith, c.raise_with-three.ensures.size)) in
    let h2 : to_z w128 (of_z w128 (to_z w128 (of_z w128 c.raise_with-two.result) +ℤ to_z w128 (of_z w128 c.raise_with-three.result))) ≡ (c.raise_with-two.result +ℤ c.raise_with-three.result) = sum_held c.raise_with-two.result c.raise_with-three.result c.raise_with-three.result (omega (arith, c.raise_with-two.ensures.size)) h3 (omega (arith, c.raise_with-three.ensures.size)) in
    let h1 : to_z w128 (of_z w128 (to_z w128 (of_z w128 c.raise_with-one.result) +ℤ to_z w128 (of_z w128 (to_z w128 (of_z w128 c.raise_with-two.result) +ℤ to_z w128 (of_z w128 c.raise_with-three.result))))) ≡ (c.raise_with-one.result +ℤ (c.raise_with-two.result +ℤ c.raise_with-three.result)) = sum_held c.raise_with-one.result (to_z w128 (of_z w128 c.raise_with-two.result) +ℤ to_z w128 (of_z w128 c.raise_with-three.result)) (c.raise_with-two.result +ℤ c.raise_with-three.result) (omega (arith, c.raise_with-one.ensures.size)) h2 (omega (arith, ints, c.raise_with-three.ensures.size, c.raise_with-two.ensures.size)) in
    let h0 : to_z w128 (of_z w128 (to_z w128 (of_z w128 c.raise_product-scaled.result) +ℤ to_z w128 (of_z w128 (to_z w128 (of_z w128 c.raise_with-one.result) +ℤ to_z w128 (of_z w128 (to_z w128 (of_z w128 c.raise_with-two.result) +ℤ to_z w128 (of_z w128 c.raise_with-three.result))))))) ≡ (c.raise_product-scaled.result +ℤ (c.raise_with-one.result +ℤ (c.raise_with-two.result +ℤ c.raise_with-three.result))) = sum_held c.raise_product-scaled.result (to_z w128 (of_z w128 c.raise_with-one.result) +ℤ to_z w128 (of_z w128 (to_z w128 (of_z w128 c.raise_with-two.result) +ℤ to_z w128 (of_z w128 c.raise_with-three.result)))) (c.raise_with-one.result +ℤ (c.raise_with-two.result +ℤ c.raise_with-three.result)) (omega (arith, c.raise_product-scaled.ensures.size)) h1 (omega (arith, ints, c.raise_with-three.ensures.size, c.raise_with-two.ensures.size, c.raise_with-one.ensures.size)) in
    let h : to_z w128 (of_z w128 (to_z w128 (of_z w128 c.raise_with-tripled.result) +ℤ to_z w128 (of_z w128 (to_z w128 (of_z w128 c.raise_product-scaled.result) +ℤ to_z w128 (of_z w128 (to_z w128 (of_z w128 c.raise_with-one.result) +ℤ to_z w128 (of_z w128 (to_z w128 (of_z w128 c.raise_with-two.result) +ℤ to_z w128 (of_z w128 c.raise_with-three.result))))))))) ≡ (c.raise_with-tripled.result +ℤ (c.raise_product-scaled.result +ℤ (c.raise_with-one.result +ℤ (c.raise_with-two.result +ℤ c.raise_with-three.result)))) = sum_held c.raise_with-tripled.result (to_z w128 (of_z w128 c.raise_product-scaled.result) +ℤ to_z w128 (of_z w128 (to_z w128 (of_z w128 c.raise_with-one.result) +ℤ to_z w128 (of_z w128 (to_z w128 (of_z w128 c.raise_with-two.result) +ℤ to_z w128 (of_z w128 c.raise_with-three.result)))))) (c.raise_product-scaled.result +ℤ (c.raise_with-one.result +ℤ (c.raise_with-two.result +ℤ c.raise_with-three.result))) (omega (arith, c.raise_with-tripled.ensures.size)) h0 (omega (arith, ints, c.raise_with-three.ensures.size, c.raise_with-two.ensures.size, c.raise_with-one.ensures.size, c.raise_product-scaled.ensures.size)) in
    rw h (omega (arith, ints, c.raise_with-three.ensures.size, c.raise_with-two.ensures.size, c.raise_with-one.ensures.size, c.raise_product-scaled.ensures.size, c.raise_with-tripled.ensures.size))

pub returns-in-Weighted-clause-parts : goal.returns-in-Weighted-clause-parts
returns-in-Weighted-clause-parts c =
    let t1 : take c.args.count c.raise_with-tripled.new.sites ≡ take c.args.count c.args.sites.now = c.raise_with-tripled.ensures.sites in
    let all_is : c.split_at-in-Weighted.result.0.now ≡ take c.args.count c.args.sites.now = c.split_at-in-Weighted.ensures.front ∙ t1 in
    let t2 : take c.args.count c.raise_with-one.new.sites ≡ take c.args.count c.args.sites.now = c.raise_with-one.ensures.sites ∙ t1 in
    let t3 : take c.args.count c.raise_with-two.new.sites ≡ take c.args.count c.args.sites.now = c.raise_with-two.ensures.sites ∙ t2 in
    let n_is : to_z w128 (of_z w128 c.from.result) ≡ pos c.args.frame.parts = search rules in
    let h3 : to_z w128 (of_z w128 c.raise_with-three.result) ≡ c.raise_with-three.result = held c.raise_with-three.result (omega (arith, c.raise_with-three.ensures.size)) in
    let h2 : to_z w128 (of_z w128 (to_z w128 (of_z w128 c.raise_with-two.result) +ℤ to_z w128 (of_z w128 c.raise_with-three.result))) ≡ (c.raise_with-two.result +ℤ c.raise_with-three.result) = sum_held c.raise_with-two.result c.raise_with-three.result c.raise_with-three.result (omega (arith, c.raise_with-two.ensures.size)) h3 (omega (arith, c.raise_with-three.ensures.size)) in
    let h1 : to_z w128 (of_z w128 (to_z w128 (of_z w128 c.raise_with-one.result) +ℤ to_z w128 (of_z w128 (to_z w128 (of_z w128 c.raise_with-two.result) +ℤ to_z w128 (of_z w128 c.raise_with-three.result))))) ≡ (c.raise_with-one.result +ℤ (c.raise_with-two.result +ℤ c.raise_with-three.result)) = sum_held c.raise_with-one.result (to_z w128 (of_z w128 c.raise_with-two.result) +ℤ to_z w128 (of_z w128 c.raise_with-three.result)) (c.raise_with-two.result +ℤ c.raise_with-three.result) (omega (arith, c.raise_with-one.ensures.size)) h2 (omega (arith, ints, c.raise_with-three.ensures.size, c.raise_with-two.ensures.size)) in
    let h0 : to_z w128 (of_z w128 (to_z w128 (of_z w128 c.raise_product-scaled.result) +ℤ to_z w128 (of_z w128 (to_z w128 (of_z w128 c.raise_with-one.result) +ℤ to_z w128 (of_z w128 (to_z w128 (of_z w128 c.raise_with-two.result) +ℤ to_z w128 (of_z w128 c.raise_with-three.result))))))) ≡ (c.raise_product-scaled.result +ℤ (c.raise_with-one.result +ℤ (c.raise_with-two.result +ℤ c.raise_with-three.result))) = sum_held c.raise_product-scaled.result (to_z w128 (of_z w128 c.raise_with-one.result) +ℤ to_z w128 (of_z w128 (to_z w128 (of_z w128 c.raise_with-two.result) +ℤ to_z w128 (of_z w128 c.raise_with-three.result)))) (c.raise_with-one.result +ℤ (c.raise_with-two.result +ℤ c.raise_with-three.result)) (omega (arith, c.raise_product-scaled.ensures.size)) h1 (omega (arith, ints, c.raise_with-three.ensures.size, c.raise_with-two.ensures.size, c.raise_with-one.ensures.size)) in
    let h : to_z w128 (of_z w128 (to_z w128 (of_z w128 c.raise_with-tripled.result) +ℤ to_z w128 (of_z w128 (to_z w128 (of_z w128 c.raise_product-scaled.result) +ℤ to_z w128 (of_z w128 (to_z w128 (of_z w128 c.raise_with-one.result) +ℤ to_z w128 (of_z w128 (to_z w128 (of_z w128 c.raise_with-two.result) +ℤ to_z w128 (of_z w128 c.raise_with-three.result))))))))) ≡ (c.raise_with-tripled.result +ℤ (c.raise_product-scaled.result +ℤ (c.raise_with-one.result +ℤ (c.raise_with-two.result +ℤ c.raise_with-three.result)))) = sum_held c.raise_with-tripled.result (to_z w128 (of_z w128 c.raise_product-scaled.result) +ℤ to_z w128 (of_z w128 (to_z w128 (of_z w128 c.raise_with-one.result) +ℤ to_z w128 (of_z w128 (to_z w128 (of_z w128 c.raise_with-two.result) +ℤ to_z w128 (of_z w128 c.raise_with-three.result)))))) (c.raise_product-scaled.result +ℤ (c.raise_with-one.result +ℤ (c.raise_with-two.result +ℤ c.raise_with-three.result))) (omega (arith, c.raise_with-tripled.ensures.size)) h0 (omega (arith, ints, c.raise_with-three.ensures.size, c.raise_with-two.ensures.size, c.raise_with-one.ensures.size, c.raise_product-scaled.ensures.size)) in
    let p1 : c.raise_with-tripled.result ≡ part_of c.args.frame.micro c.args.frame.den (low_of c.args.frame) (high_of c.args.frame) (times (pos 3) (take c.args.count c.args.sites.now ++ c.in-Weighted.own ∷ [])) = c.raise_with-tripled.ensures.part in
    let p2 : c.raise_product-scaled.result ≡ part_of c.args.frame.micro c.args.frame.den (low_of c.args.frame) (high_of c.args.frame) (times (pos c.args.frame.parts) (take c.args.count c.args.sites.now)) = c.raise_product-scaled.ensures.part ∙ ap (λ (f : ℤ). part_of c.args.frame.micro c.args.frame.den (low_of c.args.frame) (high_of c.args.frame) (times f c.split_at-in-Weighted.result.0.now)) n_is ∙ ap (λ (s : List ℕ). part_of c.args.frame.micro c.args.frame.den (low_of c.args.frame) (high_of c.args.frame) (times (pos c.args.frame.parts) s)) all_is in
    let p3 : c.raise_with-one.result ≡ part_of c.args.frame.micro c.args.frame.den (low_of c.args.frame) (high_of c.args.frame) (times (negsuc 0) (take c.args.count c.args.sites.now ++ c.in-Weighted.first ∷ [])) = c.raise_with-one.ensures.part ∙ ap (λ (s : List ℕ). part_of c.args.frame.micro c.args.frame.den (low_of c.args.frame) (high_of c.args.frame) (times (negsuc 0) (s ++ c.in-Weighted.first ∷ []))) t1 in
    let p4 : c.raise_with-two.result ≡ part_of c.args.frame.micro c.args.frame.den (low_of c.args.frame) (high_of c.args.frame) (times (negsuc 0) (take c.args.count c.args.sites.now ++ c.in-Weighted.second ∷ [])) = c.raise_with-two.ensures.part ∙ ap (λ (s : List ℕ). part_of c.args.frame.micro c.args.frame.den (low_of c.args.frame) (high_of c.args.frame) (times (negsuc 0) (s ++ c.in-Weighted.second ∷ []))) t2 in
    let p5 : c.raise_with-three.result ≡ part_of c.args.frame.micro c.args.frame.den (low_of c.args.frame) (high_of c.args.frame) (times (negsuc 0) (take c.args.count c.args.sites.now ++ c.in-Weighted.third ∷ [])) = c.raise_with-three.ensures.part ∙ ap (λ (s : List ℕ). part_of c.args.frame.micro c.args.frame.den (low_of c.args.frame) (high_of c.args.frame) (times (negsuc 0) (s ++ c.in-Weighted.third ∷ []))) t3 in
    rw c.in-Weighted.is (h ∙ five_add c.raise_with-tripled.result c.raise_product-scaled.result c.raise_with-one.result c.raise_with-two.result c.raise_with-three.result _ _ _ _ _ p1 p2 p3 p4 p5)

pub returns-in-Weighted-clause-slopes : goal.returns-in-Weighted-clause-slopes
returns-in-Weighted-clause-slopes c =
    let t1 : take c.args.count c.raise_with-tripled.new.sites ≡ take c.args.count c.args.sites.now = c.raise_with-tripled.ensures.sites in
    let all_is : c.split_at-in-Weighted.result.0.now ≡ take c.args.count c.args.sites.now = c.split_at-in-Weighted.ensures.front ∙ t1 in
    let t2 : take c.args.count c.raise_with-one.new.sites ≡ take c.args.count c.args.sites.now = c.raise_with-one.ensures.sites ∙ t1 in
    let t3 : take c.args.count c.raise_with-two.new.sites ≡ take c.args.count c.args.sites.now = c.raise_with-two.ensures.sites ∙ t2 in
    let n_is : to_z w128 (of_z w128 c.from.result) ≡ pos c.args.frame.parts = search rules in
    rw c.in-Weighted.is (λ i.
    let e1 : slice_index_or c.raise_with-tripled.new.slopes i (pos 0) ≡ slice_index_or c.args.slopes.now i (pos 0) +ℤ site_slope (slopes_of_product c.args.frame.micro c.args.frame.den (low_of c.args.frame) (high_of c.args.frame) (times (pos 3) (take c.args.count c.args.sites.now ++ c.in-Weighted.own ∷ []))) i = c.raise_with-tripled.ensures.slopes i in
    let e2 : slice_index_or c.raise_product-scaled.new.slopes i (pos 0) ≡ slice_index_or c.raise_with-tripled.new.slopes i (pos 0) +ℤ site_slope (slopes_of_product c.args.frame.micro c.args.frame.den (low_of c.args.frame) (high_of c.args.frame) (times (pos c.args.frame.parts) (take c.args.count c.args.sites.now))) i = c.raise_product-scaled.ensures.slopes i ∙ ap (λ (f : ℤ). slice_index_or c.raise_with-tripled.new.slopes i (pos 0) +ℤ site_slope (slopes_of_product c.args.frame.micro c.args.frame.den (low_of c.args.frame) (high_of c.args.frame) (times f c.split_at-in-Weighted.result.0.now)) i) n_is ∙ ap (λ (s : List ℕ). slice_index_or c.raise_with-tripled.new.slopes i (pos 0) +ℤ site_slope (slopes_of_product c.args.frame.micro c.args.frame.den (low_of c.args.frame) (high_of c.args.frame) (times (pos c.args.frame.parts) s)) i) all_is in
    let e3 : slice_index_or c.raise_with-one.new.slopes i (pos 0) ≡ slice_index_or c.raise_product-scaled.new.slopes i (pos 0) +ℤ site_slope (slopes_of_product c.args.frame.micro c.args.frame.den (low_of c.args.frame) (high_of c.args.frame) (times (negsuc 0) (take c.args.count c.args.sites.now ++ c.in-Weighted.first ∷ []))) i = c.raise_with-one.ensures.slopes i ∙ ap (λ (s : List ℕ). slice_index_or c.raise_product-scaled.new.slopes i (pos 0) +ℤ site_slope (slopes_of_product c.args.frame.micro c.args.frame.den (low_of c.args.frame) (high_of c.args.frame) (times (negsuc 0) (s ++ c.in-Weighted.first ∷ []))) i) t1 in
    let e4 : slice_index_or c.raise_with-two.new.slopes i (pos 0) ≡ slice_index_or c.raise_with-one.new.slopes i (pos 0) +ℤ site_slope (slopes_of_product c.args.frame.micro c.args.frame.den (low_of c.args.frame) (high_of c.args.frame) (times (negsuc 0) (take c.args.count c.args.sites.now ++ c.in-Weighted.second ∷ []))) i = c.raise_with-two.ensures.slopes i ∙ ap (λ (s : List ℕ). slice_index_or c.raise_with-one.new.slopes i (pos 0) +ℤ site_slope (slopes_of_product c.args.frame.micro c.args.frame.den (low_of c.args.frame) (high_of c.args.frame) (times (negsuc 0) (s ++ c.in-Weighted.second ∷ []))) i) t2 in
    let e5 : slice_index_or c.raise_with-three.new.slopes i (pos 0) ≡ slice_index_or c.raise_with-two.new.slopes i (pos 0) +ℤ site_slope (slopes_of_product c.args.frame.micro c.args.frame.den (low_of c.args.frame) (high_of c.args.frame) (times (negsuc 0) (take c.args.count c.args.sites.now ++ c.in-Weighted.third ∷ []))) i = c.raise_with-three.ensures.slopes i ∙ ap (λ (s : List ℕ). slice_index_or c.raise_with-two.new.slopes i (pos 0) +ℤ site_slope (slopes_of_product c.args.frame.micro c.args.frame.den (low_of c.args.frame) (high_of c.args.frame) (times (negsuc 0) (s ++ c.in-Weighted.third ∷ []))) i) t3 in
    raised_first c.args.frame.micro c.args.frame.den (low_of c.args.frame) (high_of c.args.frame) (times (pos 3) (take c.args.count c.args.sites.now ++ c.in-Weighted.own ∷ [])) ((times (pos c.args.frame.parts) (take c.args.count c.args.sites.now)) ∷ (times (negsuc 0) (take c.args.count c.args.sites.now ++ c.in-Weighted.first ∷ [])) ∷ (times (negsuc 0) (take c.args.count c.args.sites.now ++ c.in-Weighted.second ∷ [])) ∷ (times (negsuc 0) (take c.args.count c.args.sites.now ++ c.in-Weighted.third ∷ [])) ∷ []) i (slice_index_or c.args.slopes.now i (pos 0)) (slice_index_or c.raise_with-tripled.new.slopes i (pos 0)) (slice_index_or c.raise_with-three.new.slopes i (pos 0)) e1
    (raised_first c.args.frame.micro c.args.frame.den (low_of c.args.frame) (high_of c.args.frame) (times (pos c.args.frame.parts) (take c.args.count c.args.sites.now)) ((times (negsuc 0) (take c.args.count c.args.sites.now ++ c.in-Weighted.first ∷ [])) ∷ (times (negsuc 0) (take c.args.count c.args.sites.now ++ c.in-Weighted.second ∷ [])) ∷ (times (negsuc 0) (take c.args.count c.args.sites.now ++ c.in-Weighted.third ∷ [])) ∷ []) i (slice_index_or c.raise_with-tripled.new.slopes i (pos 0)) (slice_index_or c.raise_product-scaled.new.slopes i (pos 0)) (slice_index_or c.raise_with-three.new.slopes i (pos 0)) e2
    (raised_first c.args.frame.micro c.args.frame.den (low_of c.args.frame) (high_of c.args.frame) (times (negsuc 0) (take c.args.count c.args.sites.now ++ c.in-Weighted.first ∷ [])) ((times (negsuc 0) (take c.args.count c.args.sites.now ++ c.in-Weighted.second ∷ [])) ∷ (times (negsuc 0) (take c.args.count c.args.sites.now ++ c.in-Weighted.third ∷ [])) ∷ []) i (slice_index_or c.raise_product-scaled.new.slopes i (pos 0)) (slice_index_or c.raise_with-one.new.slopes i (pos 0)) (slice_index_or c.raise_with-three.new.slopes i (pos 0)) e3
    (raised_first c.args.frame.micro c.args.frame.den (low_of c.args.frame) (high_of c.args.frame) (times (negsuc 0) (take c.args.count c.args.sites.now ++ c.in-Weighted.second ∷ [])) ((times (negsuc 0) (take c.args.count c.args.sites.now ++ c.in-Weighted.third ∷ [])) ∷ []) i (slice_index_or c.raise_with-one.new.slopes i (pos 0)) (slice_index_or c.raise_with-two.new.slopes i (pos 0)) (slice_index_or c.raise_with-three.new.slopes i (pos 0)) e4
    (raised_first c.args.frame.micro c.args.frame.den (low_of c.args.frame) (high_of c.args.frame) (times (negsuc 0) (take c.args.count c.args.sites.now ++ c.in-Weighted.third ∷ [])) [] i (slice_index_or c.raise_with-two.new.slopes i (pos 0)) (slice_index_or c.raise_with-three.new.slopes i (pos 0)) (slice_index_or c.raise_with-three.new.slopes i (pos 0)) e5 (raised_last (slice_index_or c.raise_with-three.new.slopes i (pos 0))))))))

pub returns-in-Difference-clause-slopes : goal.returns-in-Difference-clause-slopes
returns-in-Difference-clause-slopes c =
    let t1 : take c.args.count c.raise_with-up.new.sites ≡ take c.args.count c.args.sites.now = c.raise_with-up.ensures.sites in
    rw c.in-Difference.is (λ i.
    let e1 : slice_index_or c.raise_with-up.new.slopes i (pos 0) ≡ slice_index_or c.args.slopes.now i (pos 0) +ℤ site_slope (slopes_of_product c.args.frame.micro c.args.frame.den (low_of c.args.frame) (high_of c.args.frame) (times (pos 1) (take c.args.count c.args.sites.now ++ c.in-Difference.first ∷ []))) i = c.raise_with-up.ensures.slopes i in
    let e2 : slice_index_or c.raise_with-down.new.slopes i (pos 0) ≡ slice_index_or c.raise_with-up.new.slopes i (pos 0) +ℤ site_slope (slopes_of_product c.args.frame.micro c.args.frame.den (low_of c.args.frame) (high_of c.args.frame) (times (negsuc 0) (take c.args.count c.args.sites.now ++ c.in-Difference.second ∷ []))) i = c.raise_with-down.ensures.slopes i ∙ ap (λ (s : List ℕ). slice_index_or c.raise_with-up.new.slopes i (pos 0) +ℤ site_slope (slopes_of_product c.args.frame.micro c.args.frame.den (low_of c.args.frame) (high_of c.args.frame) (times (negsuc 0) (s ++ c.in-Difference.second ∷ []))) i) t1 in
    raised_first c.args.frame.micro c.args.frame.den (low_of c.args.frame) (high_of c.args.frame) (times (pos 1) (take c.args.count c.args.sites.now ++ c.in-Difference.first ∷ [])) ((times (negsuc 0) (take c.args.count c.args.sites.now ++ c.in-Difference.second ∷ [])) ∷ []) i (slice_index_or c.args.slopes.now i (pos 0)) (slice_index_or c.raise_with-up.new.slopes i (pos 0)) (slice_index_or c.raise_with-down.new.slopes i (pos 0)) e1
    (raised_first c.args.frame.micro c.args.frame.den (low_of c.args.frame) (high_of c.args.frame) (times (negsuc 0) (take c.args.count c.args.sites.now ++ c.in-Difference.second ∷ [])) [] i (slice_index_or c.raise_with-up.new.slopes i (pos 0)) (slice_index_or c.raise_with-down.new.slopes i (pos 0)) (slice_index_or c.raise_with-down.new.slopes i (pos 0)) e2 (raised_last (slice_index_or c.raise_with-down.new.slopes i (pos 0)))))

pub returns-in-Plain-clause-slopes : goal.returns-in-Plain-clause-slopes
returns-in-Plain-clause-slopes c =
    let all_is : c.split_at.result.0.now ≡ take c.args.count c.args.sites.now = c.split_at.ensures.front in
    rw c.in-Plain.is (λ i.
    let e1 : slice_index_or c.raise_product.new.slopes i (pos 0) ≡ slice_index_or c.args.slopes.now i (pos 0) +ℤ site_slope (slopes_of_product c.args.frame.micro c.args.frame.den (low_of c.args.frame) (high_of c.args.frame) (times (pos 1) (take c.args.count c.args.sites.now))) i = c.raise_product.ensures.slopes i ∙ ap (λ (s : List ℕ). slice_index_or c.args.slopes.now i (pos 0) +ℤ site_slope (slopes_of_product c.args.frame.micro c.args.frame.den (low_of c.args.frame) (high_of c.args.frame) (times (pos 1) s)) i) all_is in
    raised_first c.args.frame.micro c.args.frame.den (low_of c.args.frame) (high_of c.args.frame) (times (pos 1) (take c.args.count c.args.sites.now)) [] i (slice_index_or c.args.slopes.now i (pos 0)) (slice_index_or c.raise_product.new.slopes i (pos 0)) (slice_index_or c.raise_product.new.slopes i (pos 0)) e1 (raised_last (slice_index_or c.raise_product.new.slopes i (pos 0))))
