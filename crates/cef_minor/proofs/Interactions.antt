-- How many constituents interact: one list more in front of others.
use Rattle.std.proofs.Common.{◌≡◌, ℕ, zero, suc, ◌<◌, ◌≤◌, List, [], ◌∷◌, length, map, refl, arith, ap, sym, ◌∙◌, Bool, true, false}
use Rattle.cef_core.specs.Parameters.{interacting}
use Rattle.cef_term.proofs.Lists.{interacting-cons, interacting_few, interacting_many}
use Rattle.cef_minor.specs.declared.interaction.Interaction.TheVariants.{Alone, Pair, Triple, TwoPairs, Larger}
use Rattle.cef_minor.specs.Forms.{interaction_of}

alone_none : (sizes : List ℕ) → Alone ≡ interaction_of sizes → sizes ≡ []
alone_none [] e = refl
alone_none (zero ∷ sizes) e = absurd cc
alone_none (suc zero ∷ sizes) e = absurd cc
alone_none (suc (suc zero) ∷ []) e = absurd cc
alone_none (suc (suc zero) ∷ zero ∷ sizes) e = absurd cc
alone_none (suc (suc zero) ∷ suc zero ∷ sizes) e = absurd cc
alone_none (suc (suc zero) ∷ suc (suc zero) ∷ []) e = absurd cc
alone_none (suc (suc zero) ∷ suc (suc zero) ∷ n ∷ sizes) e = absurd cc
alone_none (suc (suc zero) ∷ suc (suc (suc n)) ∷ sizes) e = absurd cc
alone_none (suc (suc (suc zero)) ∷ []) e = absurd cc
alone_none (suc (suc (suc zero)) ∷ n ∷ sizes) e = absurd cc
alone_none (suc (suc (suc (suc n))) ∷ sizes) e = absurd cc

pair_one : (sizes : List ℕ) → Pair ≡ interaction_of sizes → sizes ≡ 2 ∷ []
pair_one [] e = absurd cc
pair_one (zero ∷ sizes) e = absurd cc
pair_one (suc zero ∷ sizes) e = absurd cc
pair_one (suc (suc zero) ∷ []) e = refl
pair_one (suc (suc zero) ∷ zero ∷ sizes) e = absurd cc
pair_one (suc (suc zero) ∷ suc zero ∷ sizes) e = absurd cc
pair_one (suc (suc zero) ∷ suc (suc zero) ∷ []) e = absurd cc
pair_one (suc (suc zero) ∷ suc (suc zero) ∷ n ∷ sizes) e = absurd cc
pair_one (suc (suc zero) ∷ suc (suc (suc n)) ∷ sizes) e = absurd cc
pair_one (suc (suc (suc zero)) ∷ []) e = absurd cc
pair_one (suc (suc (suc zero)) ∷ n ∷ sizes) e = absurd cc
pair_one (suc (suc (suc (suc n))) ∷ sizes) e = absurd cc

behind_larger : (size : ℕ) (sizes : List ℕ) → (Alone ≡ interaction_of sizes → ⊥) → (Pair ≡ interaction_of sizes → ⊥) → Larger ≡ interaction_of (size ∷ sizes)
behind_larger zero sizes h k = refl
behind_larger (suc zero) sizes h k = refl
behind_larger (suc (suc zero)) [] h k = absurd (h refl)
behind_larger (suc (suc zero)) (zero ∷ sizes) h k = refl
behind_larger (suc (suc zero)) (suc zero ∷ sizes) h k = refl
behind_larger (suc (suc zero)) (suc (suc zero) ∷ []) h k = absurd (k refl)
behind_larger (suc (suc zero)) (suc (suc zero) ∷ n ∷ sizes) h k = refl
behind_larger (suc (suc zero)) (suc (suc (suc n)) ∷ sizes) h k = refl
behind_larger (suc (suc (suc zero))) [] h k = absurd (h refl)
behind_larger (suc (suc (suc zero))) (n ∷ sizes) h k = refl
behind_larger (suc (suc (suc (suc n)))) sizes h k = refl

alone_larger : (size : ℕ) → (size ≡ 2 → ⊥) → (size ≡ 3 → ⊥) → Larger ≡ interaction_of (size ∷ [])
alone_larger zero h k = refl
alone_larger (suc zero) h k = refl
alone_larger (suc (suc zero)) h k = absurd (h refl)
alone_larger (suc (suc (suc zero))) h k = absurd (k refl)
alone_larger (suc (suc (suc (suc n)))) h k = refl

pair_larger : (size : ℕ) → (size ≡ 2 → ⊥) → Larger ≡ interaction_of (size ∷ 2 ∷ [])
pair_larger zero h = refl
pair_larger (suc zero) h = refl
pair_larger (suc (suc zero)) h = absurd (h refl)
pair_larger (suc (suc (suc zero))) h = refl
pair_larger (suc (suc (suc (suc n)))) h = refl

pub one_pair : (size : ℕ) (sizes : List ℕ) → size ≡ 2 → Alone ≡ interaction_of sizes → Pair ≡ interaction_of (size ∷ sizes)
one_pair size sizes e h = rw (e, alone_none sizes h) refl

pub one_triple : (size : ℕ) (sizes : List ℕ) → size ≡ 3 → Alone ≡ interaction_of sizes → Triple ≡ interaction_of (size ∷ sizes)
one_triple size sizes e h = rw (e, alone_none sizes h) refl

pub one_larger : (size : ℕ) (sizes : List ℕ) → (size ≡ 2 → ⊥) → (size ≡ 3 → ⊥) → Alone ≡ interaction_of sizes → Larger ≡ interaction_of (size ∷ sizes)
one_larger size sizes h k e = rw (alone_none sizes e) (alone_larger size h k)

pub two_pairs : (size : ℕ) (sizes : List ℕ) → size ≡ 2 → Pair ≡ interaction_of sizes → TwoPairs ≡ interaction_of (size ∷ sizes)
two_pairs size sizes e h = rw (e, pair_one sizes h) refl

pub two_larger : (size : ℕ) (sizes : List ℕ) → (size ≡ 2 → ⊥) → Pair ≡ interaction_of sizes → Larger ≡ interaction_of (size ∷ sizes)
two_larger size sizes h e = rw (pair_one sizes e) (pair_larger size h)

pub behind_triple : (size : ℕ) (sizes : List ℕ) → Triple ≡ interaction_of sizes → Larger ≡ interaction_of (size ∷ sizes)
behind_triple size sizes e = behind_larger size sizes (λ h. absurd cc) (λ h. absurd cc)

pub behind_pairs : (size : ℕ) (sizes : List ℕ) → TwoPairs ≡ interaction_of sizes → Larger ≡ interaction_of (size ∷ sizes)
behind_pairs size sizes e = behind_larger size sizes (λ h. absurd cc) (λ h. absurd cc)

pub behind_others : (size : ℕ) (sizes : List ℕ) → Larger ≡ interaction_of sizes → Larger ≡ interaction_of (size ∷ sizes)
behind_others size sizes e = behind_larger size sizes (λ h. absurd cc) (λ h. absurd cc)

pub ruleset interactions = (one_pair, one_triple, one_larger, two_pairs, two_larger, behind_triple, behind_pairs, behind_others)

pub interacting_skips : (list : List ℕ) (lists : List (List ℕ)) → length list < 2 → interacting (list ∷ lists) ≡ interacting lists
interacting_skips list lists h = rw (interacting-cons list lists, interacting_few list h) refl

pub interacting_takes : (list : List ℕ) (lists : List (List ℕ)) → 2 ≤ length list → interacting (list ∷ lists) ≡ list ∷ interacting lists
interacting_takes list lists h = rw (interacting-cons list lists, interacting_many list h) refl

pub ruleset lists = (interacting_skips, interacting_takes)
