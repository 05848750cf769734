-- ELEMENT name: the rest is unread.
use Rattle.std.specs.Prelude.{◌≡◌, ℕ, List, true}
use Rattle.cal_words.specs.declared.rules.Rule.TheVariants.{Element}
use Rattle.cal_scan.specs.FrontTokens.{first_token}
use Rattle.cal_scan.specs.Constituents.{is_element_name}

-- the text behind the command word gives this element
pub record IsElement (text name : List ℕ) : Type 0 where
  pub token : name ≡ first_token text
  pub form : is_element_name name ≡ true
