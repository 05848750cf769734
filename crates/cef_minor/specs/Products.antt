-- A parameter's q as a sum of signed products. Sites are numbered through all sublattices.
use Rattle.std.specs.Prelude.{◌≡◌, ℕ, zero, suc, ◌*◌, ◌++◌, List, [], ◌∷◌, Bool, true, ◌⊎◌, ℤ, pos, negsuc, ◌+ℤ◌, ◌-ℤ◌, ◌*ℤ◌}
use Rattle.std.specs.List.{AllByRecursion}
use Rattle.std.specs.Int.{int_div_euclid}
use Rattle.cal_math.specs.Sums.{sum_of}
use Rattle.cef_minor.specs.declared.form.Form.{Form}
use Rattle.cef_minor.specs.declared.form.Form.TheVariants.{Plain, Difference, Weighted}

-- a coefficient times the product of the counts at a list of sites
pub record SignedProduct : Type 0 where
  pub coefficient : ℤ
  pub sites : List ℕ

-- the product of the counts at a list of sites
abbrev pub product_at : (ℕ → ℕ) → List ℕ → ℕ
product_at count [] = 1
product_at count (site ∷ sites) = count site * product_at count sites

-- q = sum over the products of coefficient * (product of the counts at its sites)
abbrev pub q_of : (ℕ → ℕ) → List SignedProduct → ℤ
q_of count products = sum_of (λ (p : SignedProduct). p.coefficient *ℤ pos (product_at count p.sites)) products

-- the value of a parameter: floor (micro * q / den)
abbrev pub value_of : ℤ → ℕ → ℤ → ℤ
value_of micro den q = int_div_euclid (micro *ℤ q) (pos den)

-- the form of a binary interaction: 1 at the order 0
abbrev pub pair_form : ℕ → ℕ → ℕ → Form
pair_form zero i j = Plain
pair_form (suc order) i j = Difference i j

-- the site at the place of the order: 0, 1 or 2
abbrev pub own_of : ℕ → ℕ → ℕ → ℕ → ℕ
own_of zero i j k = i
own_of (suc zero) i j k = j
own_of (suc (suc order)) i j k = k

-- The form of the factor behind K, by the sites of the lists of two or more constituents:
--   k_i - k_j for one list of two and the order 1,
--   3*k_o + N - k_i - k_j - k_k for one list of three that is weighted, o being the one at the place of the order,
--   and 1 otherwise.
abbrev pub form_of : ℕ → Bool → List (List ℕ) → Form
form_of order weighted ((i ∷ j ∷ []) ∷ []) = pair_form order i j
form_of order true ((i ∷ j ∷ k ∷ []) ∷ []) = Weighted (own_of order i j k) i j k
form_of order weighted lists = Plain

abbrev pub times : ℤ → List ℕ → SignedProduct
times coefficient sites = record { coefficient = coefficient; sites = sites }

-- The signed products of a parameter whose array has the sites `all`, an added site standing last:
--   K,
--   k_i*K - k_j*K,
--   3*k_o*K + N*K - k_i*K - k_j*K - k_k*K.
abbrev pub products_of : ℕ → Form → List ℕ → List SignedProduct
products_of n Plain all = times (pos 1) all ∷ []
products_of n (Difference i j) all = times (pos 1) (all ++ i ∷ []) ∷ times (negsuc 0) (all ++ j ∷ []) ∷ []
products_of n (Weighted o i j k) all =
    times (pos 3) (all ++ o ∷ [])
    ∷ times (pos n) all
    ∷ times (negsuc 0) (all ++ i ∷ [])
    ∷ times (negsuc 0) (all ++ j ∷ [])
    ∷ times (negsuc 0) (all ++ k ∷ [])
    ∷ []

-- the site stands in the list
abbrev pub IsAmong : List ℕ → ℕ → Type 0
IsAmong [] site = ⊥
IsAmong (x ∷ xs) site = (site ≡ x) ⊎ IsAmong xs site

-- every product has sites of the array alone
abbrev pub AreOver : List ℕ → List SignedProduct → Type 0
AreOver array products = AllByRecursion (λ (p : SignedProduct). AllByRecursion (IsAmong array) p.sites) products
