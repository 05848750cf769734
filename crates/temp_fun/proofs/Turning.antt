-- A step from a state to the next.
use Rattle.std.proofs.Common.{◌≡◌, ℕ, suc, ◌<◌, ◌≤◌, List, [], ◌∷◌, ◌++◌, length, reverse, set, Some, Ok, Err, refl, sym, ap, subst, ◌∙◌, arith, inl, length-append}
use Rattle.std.specs.Prelude.{ℤ, slice_get}
use Rattle.std.proofs.lemmas.List.{reverse-append}
use Rattle.tdb_expr.specs.declared.expression.Expr.TheVariants.{Sum as sum_of}
use Rattle.tdb_expr.specs.declared.factor.Factor.TheVariants.{Name}
use Rattle.tdb_expr.specs.declared.product.Product.{Product}
use Rattle.tdb_expr.specs.declared.ranged.Ranged.{Ranged}
use Rattle.temp_fun.specs.declared.mark.Mark.{Mark}
use Rattle.temp_fun.specs.declared.mark.Mark.TheVariants.{Unvisited, Followed, Done}
use Rattle.temp_fun.specs.declared.partial.Sum.{Sum}
use Rattle.temp_fun.specs.declared.waiting.Waiting.{Waiting}
use Rattle.temp_fun.specs.declared.waiting.Turn.{Turn}
use Rattle.temp_fun.specs.declared.waiting.Turn.TheVariants.{Ended, Needs}
use Rattle.temp_fun.specs.declared.fault.EvalFault.{EvalFault}
use Rattle.temp_fun.specs.declared.fault.EvalFault.TheVariants.{Missing, Cycle, Unsupported, TooLarge, Memory}
use Rattle.temp_fun.specs.Pieces.{Holds}
use Rattle.temp_fun.specs.Functions.{Functions, IsFunctionAt, AreFunctions}
use Rattle.tdb_expr.specs.Forms.{IsRanged}
use Rattle.temp_fun.specs.Values.{FunctionIs, IsValue, total}
use Rattle.temp_fun.specs.Values as values
use Rattle.temp_fun.specs.Stops.{ExprStops, at_factor, inside, IsAnswer}
use Rattle.temp_fun.specs.Marks.{AreRight, AreFollowed}
use Rattle.temp_fun.specs.Progress.{IsWaiting, IsTotal, TurnsOn, StopsAt, Turns}
use Rattle.temp_fun.specs.Chains.{Waits, Chain}
use Rattle.temp_fun.specs.States.{IsState, IsReady, work_left}
use Rattle.temp_fun.proofs.Choosing.{function_ranged}
use Rattle.temp_fun.proofs.Fronts.{products_height}
use Rattle.temp_fun.proofs.Marking.{right_followed, followed_fresh, followed_more, unvisited_followed, right_done, followed_less, unvisited_done}

reverse_snoc : (ws : List Waiting) (w : Waiting) → reverse (ws ++ w ∷ []) ≡ w ∷ reverse ws
reverse_snoc ws w = reverse-append ws (w ∷ [])

-- where one expression stops, those stop that wait for it
parent_stops : (f : Functions) (t : ℕ) (w : Waiting) (followed before : List ℕ) (ranged parent : Ranged) (fault : EvalFault) → Waits f t w followed before ranged parent → StopsAt f t followed ranged fault → StopsAt f t before parent fault
parent_stops f t w followed before ranged parent fault waits stop = record {
  expr = sum_of w.products.now;
  holds = waits.holds;
  stops = at_factor before parent.line w.products.now w.product is.product is.sum.values w.factor (Name is.name) fault
      (record { stands = is.product_stands; height = w.sum.height; valued = is.sum.valued; small = is.sum.small })
      (record { stands = is.factor_stands; numbers = is.partly.numbers; height = w.partial.height; valued = is.partly.valued })
      (inside before parent.line is.name w.child ranged stop.expr fault is.at waits.fresh waits.function stop.holds (subst (λ (fs : List ℕ). ExprStops f t fs ranged.line stop.expr fault) waits.followed_is stop.stops));
}
  where
    is : IsWaiting f t w.line w.products.now w
    is = waits.waiting

chain_stops : (f : Functions) (t : ℕ) (root : Ranged) (ws : List Waiting) (followed : List ℕ) (ranged : Ranged) (fault : EvalFault) → Chain f t root ws followed ranged → StopsAt f t followed ranged fault → StopsAt f t [] root fault
chain_stops f t root [] followed ranged fault chain stop =
    subst (λ (fs : List ℕ). StopsAt f t fs root fault) chain.0 (subst (λ (r : Ranged). StopsAt f t followed r fault) chain.1 stop)
chain_stops f t root (w ∷ ws) followed ranged fault chain stop =
    chain_stops f t root ws chain.0 chain.1 fault chain.3 (parent_stops f t w followed chain.0 ranged chain.1 fault chain.2 stop)

pub refuses : (f : Functions) (t : ℕ) (root : Ranged) (fault : EvalFault) → StopsAt f t [] root fault → IsAnswer f t root (Err fault)
refuses f t root Memory stop = tt
refuses f t root (Missing line) stop = record { expr = stop.expr; holds = stop.holds; stops = stop.stops }
refuses f t root (Cycle line) stop = record { expr = stop.expr; holds = stop.holds; stops = stop.stops }
refuses f t root (Unsupported line) stop = record { expr = stop.expr; holds = stop.holds; stops = stop.stops }
refuses f t root (TooLarge line) stop = record { expr = stop.expr; holds = stop.holds; stops = stop.stops }

-- ---- a function begins to be followed

-- it is not yet marked
pub needs_unvisited : (f : Functions) (t : ℕ) (marks : List Mark) (ranged : Ranged) (w : Waiting) → TurnsOn f t marks ranged (Needs w) → slice_get marks w.child ≡ Some Unvisited
needs_unvisited f t marks ranged w turns = turns.turns.1

needs_waits : (f : Functions) (t : ℕ) (marks : List Mark) (followed : List ℕ) (ranged child : Ranged) (w : Waiting) → IsRanged ranged → AreFollowed marks followed → TurnsOn f t marks ranged (Needs w) → IsFunctionAt f w.child child → Waits f t w (w.child ∷ followed) followed child ranged
needs_waits f t marks followed ranged child w fine are turns at = record {
  followed_is = refl;
  fresh = followed_fresh marks w.child followed turns.turns.1 are;
  function = at;
  holds = subst (λ (ps : List Product). Holds t ranged.pieces (sum_of ps)) (sym is.products_is) turns.holds;
  line = is.line_is;
  fine = fine;
  waiting = subst (λ (ps : List Product). IsWaiting f t w.line ps w) (sym is.products_is) (subst (λ (l : ℕ). IsWaiting f t l turns.products w) (sym is.line_is) is);
}
  where
    is : IsWaiting f t ranged.line turns.products w
    is = turns.turns.0

pub follow_marks : (f : Functions) (t : ℕ) (marks : List Mark) (stack : List Waiting) (w : Waiting) → IsReady f t marks stack (Needs w) → AreRight f t (set marks w.child Followed)
follow_marks f t marks stack w ready = right_followed f t marks w.child ready.1.turns.turns.1 ready.1.right

pub follow_refuses : (f : Functions) (t : ℕ) (root : Ranged) (marks : List Mark) (stack : List Waiting) (w : Waiting) (child : Ranged) (fault : EvalFault) → IsFunctionAt f w.child child → IsState f t root marks stack (Needs w) →
    ((followed : List ℕ) → AreFollowed (set marks w.child Followed) followed → StopsAt f t followed child fault) → IsAnswer f t root (Err fault)
follow_refuses f t root marks stack w child fault at state stops =
    refuses f t root fault (chain_stops f t root (w ∷ reverse stack) (w.child ∷ state.followed) child fault
    (state.followed, state.ranged, needs_waits f t marks state.followed state.ranged child w state.fine state.marked state.turns at, state.chain)
    (stops (w.child ∷ state.followed) (followed_more marks w.child state.followed state.turns.turns.1 state.marked)))

pub follow_on : (f : Functions) (t : ℕ) (root : Ranged) (marks : List Mark) (stack after : List Waiting) (w : Waiting) (child : Ranged) (turn : Turn) → AreFunctions f → IsFunctionAt f w.child child → after ≡ stack ++ w ∷ [] → TurnsOn f t (set marks w.child Followed) child turn →
    IsState f t root marks stack (Needs w) → IsState f t root (set marks w.child Followed) after turn × (work_left (set marks w.child Followed) after < work_left marks stack)
follow_on f t root marks stack after w child turn all at e turns state = (
  record {
    followed = w.child ∷ state.followed;
    ranged = child;
    fine = function_ranged f w.child child all at;
    chain = subst (λ (ws : List Waiting). Chain f t root ws (w.child ∷ state.followed) child) (sym (ap reverse e ∙ reverse_snoc stack w))
        (state.followed, state.ranged, needs_waits f t marks state.followed state.ranged child w state.fine state.marked state.turns at, state.chain);
    right = right_followed f t marks w.child state.turns.turns.1 state.right;
    marked = followed_more marks w.child state.followed state.turns.turns.1 state.marked;
    turns = turns;
  },
  omega (arith, unvisited_followed marks w.child state.turns.turns.1, ap length e, length-append stack (w ∷ [])),
)

-- ---- a function is done

total_function : (f : Functions) (t : ℕ) (place : ℕ) (ranged : Ranged) (products : List Product) (a : Sum) → IsFunctionAt f place ranged → Holds t ranged.pieces (sum_of products) → IsTotal f t products a → FunctionIs f t place a.value (suc a.height)
total_function f t place ranged products a at holds is =
    subst (λ (v : ℤ). FunctionIs f t place v (suc a.height)) (sym is.sum_is) (values.sum place ranged products is.values a.height at holds is.valued is.small)

-- what is known where the last of those that wait goes on
pub record IsPopped (f : Functions) (t : ℕ) (root : Ranged) (marks : List Mark) (rest : List Waiting) (w : Waiting) (a : Sum) : Type 0 where
  pub before : List ℕ
  pub parent : Ranged
  pub ranged : Ranged
  pub waits : Waits f t w (w.child ∷ before) before ranged parent
  pub chain : Chain f t root (reverse rest) before parent
  pub right : AreRight f t marks
  pub marked : AreFollowed marks (w.child ∷ before)
  pub done : FunctionIs f t w.child a.value (suc a.height)
  pub low : a.height ≤ 64

pub popped : (f : Functions) (t : ℕ) (root : Ranged) (marks : List Mark) (stack rest : List Waiting) (w : Waiting) (a : Sum) → stack ≡ rest ++ w ∷ [] → IsState f t root marks stack (Ended a) → IsPopped f t root marks rest w a
popped f t root marks stack rest w a e state = record {
  before = chain.0;
  parent = chain.1;
  ranged = state.ranged;
  waits = subst (λ (fs : List ℕ). Waits f t w fs chain.0 state.ranged chain.1) chain.2.followed_is chain.2;
  chain = chain.3;
  right = state.right;
  marked = subst (λ (fs : List ℕ). AreFollowed marks fs) chain.2.followed_is state.marked;
  done = total_function f t w.child state.ranged state.turns.products a chain.2.function state.turns.holds state.turns.turns;
  low = products_height f t state.turns.products state.turns.turns.values a.height state.turns.turns.valued;
}
  where
    chain : Chain f t root (w ∷ reverse rest) state.followed state.ranged
    chain = subst (λ (ws : List Waiting). Chain f t root ws state.followed state.ranged) (ap reverse e ∙ reverse_snoc rest w) state.chain

pub finish_marks : (f : Functions) (t : ℕ) (root : Ranged) (marks : List Mark) (rest : List Waiting) (w : Waiting) (a : Sum) (h : ℕ) → h ≡ suc a.height → IsPopped f t root marks rest w a → AreRight f t (set marks w.child (Done a.value h))
finish_marks f t root marks rest w a h e p =
    right_done f t marks w.child a.value h (p.marked.all w.child (inl refl)) (subst (λ (n : ℕ). FunctionIs f t w.child a.value n) (sym e) p.done) p.right

pub finish_refuses : (f : Functions) (t : ℕ) (root : Ranged) (marks : List Mark) (rest : List Waiting) (w : Waiting) (a : Sum) (h : ℕ) (fault : EvalFault) → IsPopped f t root marks rest w a →
    ((followed : List ℕ) → AreFollowed (set marks w.child (Done a.value h)) followed → ExprStops f t followed w.line (sum_of w.products.now) fault) → IsAnswer f t root (Err fault)
finish_refuses f t root marks rest w a h fault p stops =
    refuses f t root fault (chain_stops f t root (reverse rest) p.before p.parent fault p.chain
    (record {
      expr = sum_of w.products.now;
      holds = p.waits.holds;
      stops = subst (λ (l : ℕ). ExprStops f t p.before l (sum_of w.products.now) fault) p.waits.line (stops p.before (followed_less marks w.child p.before a.value h p.waits.fresh p.marked));
    }))

-- a sum that goes on, of a ranged text
turns_for : (f : Functions) (t : ℕ) (marks : List Mark) (line : ℕ) (products : List Product) (ranged : Ranged) (turn : Turn) → line ≡ ranged.line → Holds t ranged.pieces (sum_of products) → Turns f t marks line products (Ok turn) → TurnsOn f t marks ranged turn
turns_for f t marks line products ranged turn e holds turns = record { products = products; holds = holds; turns = subst (λ (l : ℕ). Turns f t marks l products (Ok turn)) e turns }

pub finish_on : (f : Functions) (t : ℕ) (root : Ranged) (marks : List Mark) (stack rest : List Waiting) (w : Waiting) (a : Sum) (h : ℕ) (turn : Turn) → h ≡ suc a.height → stack ≡ rest ++ w ∷ [] → Turns f t (set marks w.child (Done a.value h)) w.line w.products.now (Ok turn) →
    IsPopped f t root marks rest w a → IsState f t root (set marks w.child (Done a.value h)) rest turn × (work_left (set marks w.child (Done a.value h)) rest < work_left marks stack)
finish_on f t root marks stack rest w a h turn eh e turns p = (
  record {
    followed = p.before;
    ranged = p.parent;
    fine = p.waits.fine;
    chain = p.chain;
    right = finish_marks f t root marks rest w a h eh p;
    marked = followed_less marks w.child p.before a.value h p.waits.fresh p.marked;
    turns = turns_for f t (set marks w.child (Done a.value h)) w.line w.products.now p.parent turn p.waits.line p.waits.holds turns;
  },
  omega (arith, unvisited_done marks w.child a.value h (p.marked.all w.child (inl refl)), ap length e, length-append rest (w ∷ [])),
)

-- nothing waits: the value of the root
pub ended : (f : Functions) (t : ℕ) (root : Ranged) (marks : List Mark) (stack : List Waiting) (a : Sum) → stack ≡ [] → IsState f t root marks stack (Ended a) → IsValue f t root a.value
ended f t root marks stack a e state =
    let chain : Chain f t root [] state.followed state.ranged = subst (λ (ws : List Waiting). Chain f t root ws state.followed state.ranged) (ap reverse e) state.chain in
    subst (λ (r : Ranged). IsValue f t r a.value) chain.1 (record {
      products = state.turns.products;
      values = state.turns.turns.values;
      height = a.height;
      holds = state.turns.holds;
      valued = state.turns.turns.valued;
      small = state.turns.turns.small;
      sum_is = state.turns.turns.sum_is;
    })

-- and the marks hold for whatever is read next
pub left : (f : Functions) (t : ℕ) (root : Ranged) (marks : List Mark) (stack : List Waiting) (a : Sum) → stack ≡ [] → IsState f t root marks stack (Ended a) →
    IsValue f t root a.value × AreRight f t marks × AreFollowed marks []
left f t root marks stack a e state =
    let chain : Chain f t root [] state.followed state.ranged = subst (λ (ws : List Waiting). Chain f t root ws state.followed state.ranged) (ap reverse e) state.chain in
    (ended f t root marks stack a e state, state.right, subst (λ (fs : List ℕ). AreFollowed marks fs) chain.0 state.marked)

-- ---- the first state

pub start : (f : Functions) (t : ℕ) (root : Ranged) (marks : List Mark) (stack : List Waiting) (turn : Turn) → stack ≡ [] → IsRanged root → AreRight f t marks → AreFollowed marks [] → TurnsOn f t marks root turn → IsState f t root marks stack turn
start f t root marks stack turn e fine right are turns = rw e (record { followed = []; ranged = root; fine = fine; chain = (refl, refl); right = right; marked = are; turns = turns })
