use Rattle.std.proofs.Common.{◌≡◌, ◌≢◌, ℕ, zero, suc, ◌+◌, ◌-◌, ◌/◌, ◌%◌, List, [], ◌∷◌, ◌++◌, append_assoc, append-nil, ap, sym, ◌∙◌, refl, arith}
use Rattle.cal_dec.specs.Printed.{last_digits}
use Rattle.cal_dec.proofs.printing.+push_last_digits.Goals as goal

none : (old : List ℕ) (places n : ℕ) → places ≡ 0 → old ≡ old ++ last_digits places n
unfolding last_digits
none old places n e = rw e (sym (append-nil old))

more : (old text : List ℕ) (places n : ℕ) → places ≢ 0 → text ≡ old ++ last_digits (places - 1) (n / 10) → text ++ (48 + n % 10) ∷ [] ≡ old ++ last_digits places n
unfolding last_digits
more old text zero n h e = absurd (h refl)
more old text (suc places) n h e =
    ap (λ t. t ++ (48 + n % 10) ∷ []) (e ∙ ap (λ k. old ++ last_digits k (n / 10)) (before places)) ∙ append_assoc old (last_digits places (n / 10)) ((48 + n % 10) ∷ [])
  where
    before : (places : ℕ) → suc places - 1 ≡ places
    before places = omega arith

pub returns-then-places-eq0 : goal.returns-then-places-eq0
returns-then-places-eq0 t c = none c.args.text.now.items c.args.places c.args.value c.if-places-eq0.true

pub returns : goal.returns
returns t c =
    c.in_ok-push.ensures.items ∙ more c.args.text.now.items c.push_last_digits.new.text.items c.args.places c.args.value c.if-places-eq0.false c.in_ok-push_last_digits.ensures
