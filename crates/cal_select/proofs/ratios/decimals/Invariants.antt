use Rattle.std.proofs.Common.{◌≡◌, None}
use Rattle.std.specs.List.{find, list_all, range_with_len}
use Rattle.cal_select.specs.Wholes.{is_whole_at}
use Rattle.cal_select.proofs.ratios.decimals.Given as goal

abbrev pub invariant-decimals : goal.invariant-decimals
invariant-decimals l = find (λ d. list_all (is_whole_at d) l.ratios) (range_with_len 0 l.decimals) ≡ None
