use Rattle.std.proofs.Common.{◌≡◌, ◌∙◌, ◌+◌, ◌^◌, ℕ, List, ap, length, map, min}
use Rattle.std.specs.Prelude.{sum, nat_lt}
use Rattle.cal_limits.specs.declared.TheConstants.{MOST_POWER}
use Rattle.cef_core.specs.Parameters.{interacting}
use Rattle.cef_core.specs.Phases.{factor_degree}
use Rattle.cal_select.specs.Measures.{degree_by_lengths}
use Rattle.cal_select.proofs.Degrees.{by_lengths, capped_power}
use Rattle.cal_select.proofs.limits.is_too_high.Goals as goal

pub returns : goal.returns
returns c =
    let p = c.args.parameter.now in
    let n = c.args.lattice in
    let array : c.as_slice-array.result.now ≡ p.array = c.as_slice-array.ensures in
    let count : c.constituents.result ≡ min 100 (sum (map length p.array)) = c.constituents.ensures ∙ ap (λ (lists : List (List ℕ)). min 100 (sum (map length lists))) array in
    let lengths : c.as_slice.result.now ≡ map length (interacting p.array) = c.as_slice.ensures ∙ (c.in_ok-lengths.ensures ∙ ap (λ (lists : List (List ℕ)). map length (interacting lists)) array) in
    let more : c.from.result ≡ factor_degree p.order p.weighted (interacting p.array) =
    c.from.ensures ∙ (c.factor_degree-more.ensures ∙ (ap (λ (ns : List ℕ). degree_by_lengths p.order p.weighted ns) lengths ∙ by_lengths p.order p.weighted (interacting p.array))) in
    c.is_power_above.ensures ∙ (ap (λ (s : ℕ). nat_lt MOST_POWER (n ^ (s + c.from.result))) count
    ∙ (ap (λ (v : ℕ). nat_lt MOST_POWER (n ^ (min 100 (sum (map length p.array)) + v))) more
    ∙ capped_power n (sum (map length p.array)) (factor_degree p.order p.weighted (interacting p.array)) c.requires))
