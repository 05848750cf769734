-- What a walk keeps of each element, and how its lists come into the order of other names.
use Rattle.std.specs.Prelude.{◌≡◌, ℕ, ◌<◌, ◌≤◌, List, length, map, ℤ, pos, ◌+ℤ◌, ◌-ℤ◌, ◌≤ℤ◌}
use Rattle.std.specs.Option.{option_map_or}
use Rattle.cal_limits.specs.declared.TheConstants.{MOST_ELEMENTS, MOST_ASKED}
use Rattle.cal_math.specs.Vectors.{at}
use Rattle.cal_scan.specs.Lines.{Word}
use Rattle.cal_scan.specs.Names.{AreNames}
use Rattle.cal_select.specs.Chosen.{component_of}
use Rattle.cal_scheil.specs.declared.account.Account.{Account}

-- ---- the order of names

-- the number beside the name, and 0 where it is not among the names
abbrev pub number_beside : List Word → List ℤ → Word → ℤ
number_beside names numbers name = option_map_or (at numbers) (component_of names name) (pos 0)

-- for each name of the order the number beside it
abbrev pub in_order : List Word → List ℤ → List Word → List ℤ
in_order names numbers order = map (number_beside names numbers) order

abbrev pub account_in_order : Account → List Word → Account
account_in_order account order = record {
  names = order;
  asked = in_order account.names account.asked order;
  solids = in_order account.names account.solids order;
  remains = in_order account.names account.remains order;
  lost = in_order account.names account.lost order;
}

-- ---- what every account keeps

-- Its lists have a number for each name, none below 0, and of each element: asked first = solids + remains + lost.
pub record IsAccount (account : Account) : Type 0 where
  pub names : AreNames account.names
  pub few : length account.names ≤ MOST_ELEMENTS
  pub asked_each : length account.asked ≡ length account.names
  pub solids_each : length account.solids ≡ length account.names
  pub remains_each : length account.remains ≡ length account.names
  pub lost_each : length account.lost ≡ length account.names
  pub asked_high : (c : ℕ) → at account.asked c ≤ℤ pos MOST_ASKED
  pub solids_low : (c : ℕ) → pos 0 ≤ℤ at account.solids c
  pub remains_low : (c : ℕ) → pos 0 ≤ℤ at account.remains c
  pub lost_low : (c : ℕ) → pos 0 ≤ℤ at account.lost c
  pub balanced : (c : ℕ) → at account.asked c ≡ (at account.solids c +ℤ at account.remains c) +ℤ at account.lost c
