-- The lines of entries.
use Rattle.std.proofs.Common.{◌≡◌, ℕ, zero, suc, ◌+◌, ◌≤◌, ◌<◌, inl, inr, Bool, true, false, ltb, leb, List, [], ◌∷◌, ◌++◌, length, map, get_or, Option, Some, None, refl, sym, ap, subst, ◌∙◌, append_assoc, arith}
use Rattle.std.specs.Prelude.{ℤ, pos, negsuc, unsigned_abs, ◌≤ℤ◌, codes}
use Rattle.std.specs.List.{AllByRecursion, IsDistinct, concat, position_or_len}
use Rattle.std.specs.Fmt.{decimal, signed_decimal}
use Rattle.std.proofs.lemmas.Int.{ints}
use Rattle.std.proofs.lemmas.Bool.{and_parts, and_from, ltb-true, lt-ltb, leb-true, le-leb}
use Rattle.std.proofs.lemmas.List.{append-nil, length-append}
use Rattle.std.proofs.lemmas.List.Sums.{position_or_len_is}
use Rattle.std.proofs.lemmas.List.Quantifiers.{position-Some}
use Rattle.std.proofs.lemmas.Map.Keys.{apart_from_distinct}
use Rattle.cal_limits.specs.declared.TheConstants.{MOST_ASKED, MOST_SUBLATTICES, MOST_SITES, MOST_COUNT}
use Rattle.cal_scan.specs.Words.{same_word, is_name}
use Rattle.cef_report.specs.declared.entry.Entry.{Entry}
use Rattle.cal_scan.specs.Names.{AreNames, same_name}
use Rattle.cef_report.specs.Spelled.{AreCounts, IsSpelledSite, IsSpelledEntry}
use Rattle.cal_scan.specs.Lines.{Word}
use Rattle.cef_report.specs.Texts.{more_counts, counts_words, entry_words}
use Rattle.cal_lines.specs.Words.{natural_of, integer_of}
use Rattle.cal_lines.specs.Kinds.{if_some, with_count}
use Rattle.cal_lines.proofs.Lines.{IsWord, Kind}
use Rattle.cal_lines.proofs.Numbers.{natural-found, natural-again, integer-found, integer-again, decimal_word, signed_word}
use Rattle.cal_scan.proofs.NameLists.{same-found, same-again, cond_found}
use Rattle.cal_lines.proofs.Sorts.{words_from, plain_from, name_word}
use Rattle.eq_text.specs.Kinds.{only_if, parts, is_small, site_of, is_positive, amount_of, place_of, entry_made, entry_of}
use Rattle.eq_text.proofs.Sayings.{only_if-found}
use Rattle.eq_text.proofs.Nodes.{cond_either}

-- ---- counts

abbrev AreFew : List ℕ → Type 0
AreFew part = AllByRecursion (λ k. k ≤ MOST_COUNT) part

record ReadAs (done : List (List ℕ)) (part : List ℕ) (ws : List Word) (site : List (List ℕ)) : Type 0 where
  p : List ℕ
  others : List (List ℕ)
  whole : site ≡ done ++ (part ++ p) ∷ others
  words : ws ≡ map decimal p ++ more_counts others
  counts : AreFew p
  present : 0 < length (part ++ p)
  rest : AllByRecursion AreCounts others

if_some-found : {A : Type 0} (part : List ℕ) (o : Option A) (y : A) → if_some part o ≡ Some y → (0 < length part) × (o ≡ Some y)
if_some-found [] o y e = absurd cc
if_some-found (x ∷ xs) o y e = (omega arith, e)

with_count-found : {A : Type 0} (o : Option ℕ) (f : ℕ → Option A) (y : A) → with_count o f ≡ Some y → (n : ℕ) × (o ≡ Some n) × (f n ≡ Some y)
with_count-found None f y e = absurd cc
with_count-found (Some n) f y e = (n, refl, e)

cells : {X : Type 0} (a b : X) (xs ys : List X) → a ≡ b → xs ≡ ys → a ∷ xs ≡ b ∷ ys
cells a b xs ys p q = cc

abbrev one : List ℕ → List (List ℕ) → List (List ℕ)
one part done = done ++ part ∷ []

parts-found : (done : List (List ℕ)) (part : List ℕ) (ws : List Word) (site : List (List ℕ)) → parts done part ws ≡ Some site → ReadAs done part ws site
unfolding parts
parts-found done part [] site e =
    let f = if_some-found part (Some (one part done)) site e in
    let same : one part done ≡ site = cc in
    let whole : site ≡ done ++ (part ++ []) ∷ [] = sym same ∙ ap (λ (t : List ℕ). done ++ t ∷ []) (sym (append-nil part)) in
    record { p = []; others = []; whole = whole; words = refl; counts = tt; present = rw append-nil f.0; rest = tt }
parts-found done part (w ∷ ws) site e =
    elim (cond_either (same_word w (codes ":")) (if_some part (parts (one part done) [] ws)) (with_count (natural_of MOST_COUNT w) (λ n. parts done (part ++ n ∷ []) ws)) site e) [
      | inl h ↦
          let f = if_some-found part (parts (one part done) [] ws) site h.1 in
          let r = parts-found (one part done) [] ws site f.1 in
          let colon = same-found w (codes ":") h.0 in
          let whole : site ≡ done ++ (part ++ []) ∷ (r.p ∷ r.others) = r.whole ∙ append_assoc done (part ∷ []) (r.p ∷ r.others) ∙ ap (λ (t : List ℕ). done ++ t ∷ (r.p ∷ r.others)) (sym (append-nil part)) in
          record { p = []; others = r.p ∷ r.others; whole = whole; words = cells w (codes ":") ws (map decimal r.p ++ more_counts r.others) colon r.words; counts = tt; present = rw append-nil f.0; rest = ((r.present, r.counts), r.rest) }
      | inr h ↦
          let f = with_count-found (natural_of MOST_COUNT w) (λ n. parts done (part ++ n ∷ []) ws) site h.1 in
          let r = parts-found done (part ++ f.0 ∷ []) ws site f.2 in
          let g = natural-found MOST_COUNT f.0 w (omega arith) f.1 in
          let whole : site ≡ done ++ (part ++ (f.0 ∷ r.p)) ∷ r.others = r.whole ∙ ap (λ (t : List ℕ). done ++ t ∷ r.others) (append_assoc part (f.0 ∷ []) r.p) in
          record { p = f.0 ∷ r.p; others = r.others; whole = whole; words = cells w (decimal f.0) ws (map decimal r.p ++ more_counts r.others) g.0 r.words; counts = (g.1, r.counts); present = omega (arith, length-append part (f.0 ∷ r.p)); rest = r.rest }
    ]

no_colon : (n : ℕ) → n ≤ MOST_COUNT → same_word (decimal n) (codes ":") ≡ false
no_colon n le = by_test (same_word (decimal n) (codes ":")) refl
  where
    none : natural_of MOST_COUNT (codes ":") ≡ None
    none = unfold natural_of in refl

    by_test : (t : Bool) → same_word (decimal n) (codes ":") ≡ t → t ≡ false
    by_test true is = let bad : Some n ≡ None = sym (natural-again MOST_COUNT n (omega arith) le) ∙ ap (natural_of MOST_COUNT) (same-found (decimal n) (codes ":") is) ∙ none in absurd cc
    by_test false is = refl

parts-run : (p : List ℕ) (done : List (List ℕ)) (part : List ℕ) (rest : List Word) (total : Option (List (List ℕ))) → AreFew p → parts done (part ++ p) rest ≡ total → parts done part (map decimal p ++ rest) ≡ total
unfolding parts
parts-run [] done part rest total fits e = ap (λ (t : List ℕ). parts done t rest) (sym (append-nil part)) ∙ e
parts-run (n ∷ p) done part rest total fits e =
    rw (no_colon n fits.0, natural-again MOST_COUNT n (omega (arith, fits.0)) fits.0)
    (parts-run p done (part ++ n ∷ []) rest total fits.1 (ap (λ (t : List ℕ). parts done t rest) (append_assoc part (n ∷ []) p) ∙ e))

if_some-again : {A : Type 0} (part : List ℕ) (o : Option A) → 0 < length part → if_some part o ≡ o
if_some-again [] o lt = absurd (omega arith)
if_some-again (x ∷ xs) o lt = refl

parts-again : (others : List (List ℕ)) (p : List ℕ) (done : List (List ℕ)) → AreCounts p → AllByRecursion AreCounts others → parts done [] (map decimal p ++ more_counts others) ≡ Some (done ++ p ∷ others)
unfolding parts
parts-again [] p done fits rest = parts-run p done [] [] (Some (done ++ p ∷ [])) fits.1 (if_some-again p (Some (done ++ p ∷ [])) fits.0)
parts-again (q ∷ qs) p done fits rest =
    parts-run p done [] (more_counts (q ∷ qs)) (Some (done ++ p ∷ q ∷ qs)) fits.1
    (rw (same-again (codes ":")) (if_some-again p (parts (done ++ p ∷ []) [] (map decimal q ++ more_counts qs)) fits.0 ∙ parts-again qs q (done ++ p ∷ []) rest.0 rest.1 ∙ ap (λ (t : List (List ℕ)). Some t) (append_assoc done (p ∷ []) (q ∷ qs))))

-- how many words the counts have
length-decimals : (p : List ℕ) (ws : List Word) → length (map decimal p ++ ws) ≡ length p + length ws
length-decimals [] ws = omega arith
length-decimals (n ∷ p) ws = omega (arith, length-decimals p ws)

length-more_counts : (site : List (List ℕ)) → length (more_counts site) ≡ length site + length (concat site)
length-more_counts [] = refl
length-more_counts (p ∷ site) = omega (arith, length-decimals p (more_counts site), length-more_counts site, length-append p (concat site))

few_words : (site : List (List ℕ)) → 0 < length site → length site ≤ MOST_SUBLATTICES → length (concat site) ≤ MOST_SITES → length (counts_words site) < MOST_SITES + MOST_SUBLATTICES
few_words [] some most counts = omega arith
few_words (p ∷ site) some most counts = omega (arith, length-decimals p (more_counts site), length-more_counts site, length-append p (concat site), most, counts)

counts-again : (site : List (List ℕ)) → 0 < length site → AllByRecursion AreCounts site → parts [] [] (counts_words site) ≡ Some site
counts-again [] lt fits = absurd (omega arith)
counts-again (p ∷ site) lt fits = parts-again site p [] fits.0 fits.1

site-found : (ws : List Word) (site : List (List ℕ)) → site_of ws ≡ Some site → (ws ≡ counts_words site) × IsSpelledSite site
unfolding site_of
site-found ws site e =
    let p = cond_found (ltb (length ws) (MOST_SITES + MOST_SUBLATTICES)) (only_if is_small (parts [] [] ws)) site e in
    let q = only_if-found is_small (parts [] [] ws) site p.1 in
    let r = parts-found [] [] ws site q.0 in
    let s = and_parts (leb (length site) MOST_SUBLATTICES) (leb (length (concat site)) MOST_SITES) q.1 in
    let few : length site ≤ MOST_SUBLATTICES = leb-true _ _ s.0 in
    let counts : length (concat site) ≤ MOST_SITES = leb-true _ _ s.1 in
    let words : ws ≡ counts_words site = r.words ∙ ap counts_words (sym r.whole) in
    (words, record { present = rw r.whole (omega arith); most = few; counts = subst (λ (z : List (List ℕ)). AllByRecursion AreCounts z) (sym r.whole) ((r.present, r.counts), r.rest); most_counts = counts })

site-again : (site : List (List ℕ)) → IsSpelledSite site → site_of (counts_words site) ≡ Some site
unfolding site_of
site-again site fits =
    let small : is_small site ≡ true = and_from (leb (length site) MOST_SUBLATTICES) (leb (length (concat site)) MOST_SITES) (le-leb _ _ fits.most) (le-leb _ _ fits.most_counts) in
    rw (lt-ltb _ _ (few_words site fits.present fits.most fits.most_counts), counts-again site fits.present fits.counts, small) refl

-- ---- amounts

abbrev IsAmount : ℤ → Type 0
IsAmount a = (pos 1 ≤ℤ a) × (a ≤ℤ pos MOST_ASKED)

to_amount : (a : ℤ) → unsigned_abs a ≤ MOST_ASKED → is_positive a ≡ true → IsAmount a
to_amount (pos n) le e = let lt : 0 < n = ltb-true 0 n e in (omega (arith, ints, lt), omega (arith, ints, le))
to_amount (negsuc n) le e = absurd cc

from_amount : (a : ℤ) → IsAmount a → (unsigned_abs a ≤ MOST_ASKED) × (is_positive a ≡ true)
from_amount (pos n) fits = (omega (arith, ints, fits.1), lt-ltb 0 n (omega (arith, ints, fits.0)))
from_amount (negsuc n) fits = absurd (omega (arith, ints, fits.0))

amount-found : (w : Word) (a : ℤ) → amount_of w ≡ Some a → (w ≡ signed_decimal a) × IsAmount a
unfolding amount_of
amount-found w a e =
    let p = only_if-found is_positive (integer_of MOST_ASKED w) a e in
    let f = integer-found MOST_ASKED a w (omega arith) p.0 in
    (f.0, to_amount a f.1 p.1)

amount-again : (a : ℤ) → IsAmount a → amount_of (signed_decimal a) ≡ Some a
unfolding amount_of
amount-again a fits = let f = from_amount a fits in rw (integer-again MOST_ASKED a (omega arith) f.0, f.1) refl

-- ---- places

place-found : (w : Word) (phases : List Word) (i : ℕ) → place_of w phases ≡ Some i → (w ≡ get_or phases i []) × (i < length phases)
unfolding place_of
place-found w phases i e = let p = position-Some (λ v. same_word v w) phases i [] e in (sym (same-found (get_or phases i []) w p.1), p.0)

differ : (phases : List Word) (i k : ℕ) → IsDistinct same_name phases → i < length phases → k < i → same_word (get_or phases k []) (get_or phases i []) ≡ false
unfolding same_word
differ phases i k distinct lt below = apart_from_distinct same_name phases k i [] distinct below lt

place-again : (phases : List Word) (i : ℕ) → IsDistinct same_name phases → i < length phases → place_of (get_or phases i []) phases ≡ Some i
unfolding place_of
place-again phases i distinct lt =
    let at : position_or_len (λ v. same_word v (get_or phases i [])) phases ≡ i = position_or_len_is (λ v. same_word v (get_or phases i [])) phases i [] (omega arith) (λ k below. differ phases i k distinct lt below) (λ h. same-again (get_or phases i [])) in
    rw at (rw (lt-ltb _ _ lt) refl)

-- ---- entries

made-found : (phases : List Word) (w p a : Word) (counts : List Word) (o : Option ℕ) (u : Option ℤ) (v : Option (List (List ℕ))) (e : Entry) → w ≡ codes "entry" → place_of p phases ≡ o → amount_of a ≡ u → site_of counts ≡ v → entry_made o u v ≡ Some e
    → (w ∷ p ∷ a ∷ counts ≡ entry_words phases e) × IsSpelledEntry (length phases) e
made-found phases w p a counts None u v e iw ip ia ic h = absurd cc
made-found phases w p a counts (Some i) None v e iw ip ia ic h = absurd cc
made-found phases w p a counts (Some i) (Some n) None e iw ip ia ic h = absurd cc
made-found phases w p a counts (Some i) (Some n) (Some site) e iw ip ia ic h =
    let made : Entry = record { phase = i; amount = n; site = site } in
    let same : made ≡ e = cc in
    let f = place-found p phases i ip in
    let g = amount-found a n ia in
    let r = site-found counts site ic in
    subst (λ (e : Entry). (w ∷ p ∷ a ∷ counts ≡ entry_words phases e) × IsSpelledEntry (length phases) e) same
    (rw (iw, f.0, g.0, r.0) refl, record { phase = f.1; amount_low = g.1.0; amount_high = g.1.1; site = r.1 })

entry-found : (phases ws : List Word) (e : Entry) → entry_of phases ws ≡ Some e → (ws ≡ entry_words phases e) × IsSpelledEntry (length phases) e
unfolding entry_of
entry-found phases [] e h = absurd cc
entry-found phases (w ∷ []) e h = absurd cc
entry-found phases (w ∷ p ∷ []) e h = absurd cc
entry-found phases (w ∷ p ∷ a ∷ counts) e h =
    let t = cond_found (same_word w (codes "entry")) (entry_made (place_of p phases) (amount_of a) (site_of counts)) e h in
    made-found phases w p a counts (place_of p phases) (amount_of a) (site_of counts) e (same-found w (codes "entry") t.0) refl refl refl t.1

entry-again : (phases : List Word) → IsDistinct same_name phases → (e : Entry) → IsSpelledEntry (length phases) e → entry_of phases (entry_words phases e) ≡ Some e
unfolding entry_of
entry-again phases distinct e fits =
    rw (same-again (codes "entry"), place-again phases e.phase distinct fits.phase, amount-again e.amount (fits.amount_low, fits.amount_high), site-again e.site fits.site) refl

decimals_plain : (p : List ℕ) (ws : List Word) → AreFew p → AllByRecursion IsWord ws → AllByRecursion IsWord (map decimal p ++ ws)
decimals_plain [] ws fits rest = rest
decimals_plain (n ∷ p) ws fits rest = (decimal_word n (omega (arith, fits.0)), decimals_plain p ws fits.1 rest)

more_plain : (site : List (List ℕ)) → AllByRecursion AreCounts site → AllByRecursion IsWord (more_counts site)
more_plain [] fits = tt
more_plain (p ∷ site) fits = (plain_from (codes ":") refl, decimals_plain p (more_counts site) fits.0.1 (more_plain site fits.1))

counts_plain : (site : List (List ℕ)) → AllByRecursion AreCounts site → AllByRecursion IsWord (counts_words site)
counts_plain [] fits = tt
counts_plain (p ∷ site) fits = decimals_plain p (more_counts site) fits.0.1 (more_plain site fits.1)

at_plain : (ws : List Word) (i : ℕ) → AllByRecursion (λ w. is_name w ≡ true) ws → IsWord (get_or ws i [])
at_plain [] i all = tt
at_plain (w ∷ ws) zero all = name_word w all.0
at_plain (w ∷ ws) (suc i) all = at_plain ws i all.1

pub entry_kind : (phases : List Word) → AreNames phases → Kind (entry_words phases) (IsSpelledEntry (length phases)) (entry_of phases)
entry_kind phases names = record {
  found = λ ws e h. entry-found phases ws e h;
  again = λ e fits. entry-again phases names.distinct e fits;
  plain = λ e fits. words_from (codes "entry") (get_or phases e.phase [] ∷ signed_decimal e.amount ∷ counts_words e.site) (plain_from (codes "entry") refl)
      (at_plain phases e.phase names.fine, (let f = from_amount e.amount (fits.amount_low, fits.amount_high) in signed_word e.amount (omega (arith, f.0)), counts_plain e.site fits.site.counts));
  example = (
    record { phase = 0; amount = pos 1; site = (0 ∷ []) ∷ [] },
    record {
      phase = names.present;
      amount_low = omega (arith, ints);
      amount_high = omega (arith, ints);
      site = record { present = omega arith; most = omega arith; counts = ((omega arith, (omega arith, tt)), tt); most_counts = omega arith };
    },
  );
}
