-- Numbers are refused with 41 or 42 exactly as the first fault says, and have no fault exactly if they are those of a tree that fits.
--
-- The reader is followed node by node: what it passes over has no fault and leaves to come what the definition says, and where it stops it has the first of
-- that node's faults. Later nodes begin behind it, so that their faults come later.
use Rattle.std.specs.Prelude.{◌≡◌, ◌↔◌, ◌⊎◌, Bool, ◌&&◌, ◌||◌, replicate, Err, Ok, Result}
use Rattle.std.proofs.Math.Path.{refl, ap}
use Rattle.std.proofs.Common.{sym, ap₂, subst, ◌∙◌, inl, inr}
use Rattle.std.proofs.Math.Bool.{true, false, cond}
use mathlib.Core.List.{List, [], ◌∷◌, ◌++◌}
use Prim.Native.Nat.{ℕ, zero, suc, ◌+◌, ◌*◌, ◌<◌, ◌≤◌}
use native.Mathlib.Omega.{arith}
use Rattle.std.proofs.Math.Decide.{dec_lt}
use borrow.Author.Tests.{lt-ltb, eq-eqb, ltb-true, ltb-false, eqb-true, eqb-false}
use Rattle.std.proofs.Math.Dec.{eqb, ltb}
use Rattle.std.proofs.Math.ListN.{length, get_or}
use Rattle.integers.specs.Laws.{never}
use Rattle.tree_reading.specs.declared.Kind.{Kind}
use Rattle.tree_reading.specs.declared.Kind.TheVariants.{AllOf, AnyOf}
use Rattle.tree_reading.specs.Tree.{Row, other, code_of, line_code_lem, tree_numbers, max_depth, levels, Fits}
use Rattle.tree_reading.specs.Choices.{unit_of}
use Rattle.tree_reading.specs.declared.TreeRefusal.{TreeRefusal}
use Rattle.tree_reading.specs.declared.TreeRefusal.TheVariants.{TooManyChoices, Malformed, TooDeep, NoSuchChoice}
use Rattle.tree_reading.specs.declared.Head.{Head}
use Rattle.tree_reading.specs.declared.Head.TheVariants.{Line, Children}
use Rattle.tree_reading.specs.declared.Node.{Node}
use Rattle.tree_reading.specs.Refusal.{tree_number, tree_place}
use Rattle.tree_reading.specs.Reading.{line_head_lem, children_head_lem, head_of, begun, with_child, onward, children_of, opened, node_of, whole_tree_lem, root_is_line_lem, tree_of}
use Rattle.tree_reading.specs.Running.{closed}
use Rattle.tree_reading.specs.Accepted.{accepted, read_back}
use Rattle.tree_reading.specs.Faults.{Due, root, child_of, Ahead, unknown, nodes, behind, behind_node, ahead, admits, NodeFault, cut, deep, misplaced, unlisted, FaultAt, Fault, Before, FirstFault}

-- ---- one node that is due
module _ (s : List ℕ) (m : ℕ) (x : Due) (p : ℕ) where
  -- what holds of each of its faults
  each : (P : TreeRefusal → Type 0) → (length s ≤ p + 1 → P (Malformed (length s))) → (p < length s → max_depth < x.depth → P (TooDeep p))
      → (p < length s → admits x (get_or s p 0) ≡ false → P (Malformed p)) → (p + 1 < length s → get_or s p 0 ≡ line_code_lem → m ≤ get_or s (p + 1) 0 → P (Malformed (p + 1)))
      → (q : TreeRefusal) → NodeFault s m x p q → P q
  each P f g h k _ (cut a) = f a
  each P f g h k _ (deep a b) = g a b
  each P f g h k _ (misplaced a b) = h a b
  each P f g h k _ (unlisted a b c) = k a b c

  abbrev None : Type 0
  None = (q : TreeRefusal) → NodeFault s m x p q → ⊥

  -- what the head of the reader finds, with d levels left, is the first of these faults, or there is none
  module _ (d : ℕ) where
    abbrev Judged : Result Head TreeRefusal → Type 0
    Judged (Ok Line) = None × (p + 1 < length s) × (get_or s p 0 ≡ line_code_lem)
    Judged (Ok (Children n)) = None × (p + 1 < length s) × (get_or s p 0 ≡ code_of x.kind) × (get_or s (p + 1) 0 ≡ n) × (0 < d)
    Judged (Err r) = NodeFault s m x p r × ((q : TreeRefusal) → NodeFault s m x p q → Before r q)

    module _ (depths : x.depth + d ≡ max_depth + 1) (no_line : x.or_line ≡ false → get_or s p 0 ≡ line_code_lem → ⊥) where
      not_deep : (d ≡ 0 → ⊥) → max_depth < x.depth → ⊥
      not_deep n h = n (omega arith)

      admits_kind : get_or s p 0 ≡ code_of x.kind → admits x (get_or s p 0) ≡ true
      admits_kind e = rw (eq-eqb _ _ e)

      admits_line : get_or s p 0 ≡ line_code_lem → admits x (get_or s p 0) ≡ true
      admits_line e = go x.or_line (λ q. no_line q e) (eqb (get_or s p 0) (code_of x.kind))
        where
          go : (t : Bool) → (t ≡ false → ⊥) → (u : Bool) → (u || (t && eqb (get_or s p 0) line_code_lem)) ≡ true
          go t f true = refl
          go true f false = eq-eqb _ _ e
          go false f false = absurd (f refl)

      admits_none : eqb (get_or s p 0) line_code_lem ≡ false → eqb (get_or s p 0) (code_of x.kind) ≡ false → admits x (get_or s p 0) ≡ false
      admits_none e q = go x.or_line (eqb (get_or s p 0) (code_of x.kind)) q (eqb (get_or s p 0) line_code_lem) e
        where
          go : (t u : Bool) → u ≡ false → (v : Bool) → v ≡ false → (u || (t && v)) ≡ false
          go t true e v q = never (cc)
          go t false e true q = never (cc)
          go true false e false q = refl
          go false false e false q = refl

      cut_here : length s ≤ p → Judged (Err (Malformed (length s)))
      cut_here h = (
        cut (omega arith),
        each (Before (Malformed (length s))) (λ a. inr (refl, omega arith)) (λ a b. absurd (omega arith)) (λ a b. absurd (omega arith)) (λ a b c. absurd (omega arith)),
      )

      deep_here : p < length s → d ≡ 0 → Judged (Err (TooDeep p))
      deep_here h z = (
        deep h (omega arith),
        each (Before (TooDeep p)) (λ a. inl (omega arith)) (λ a b. inr (refl, omega arith)) (λ a b. inr (refl, omega arith)) (λ a b c. inl (omega arith)),
      )

      cut_second : p < length s → (d ≡ 0 → ⊥) → length s ≤ p + 1 → admits x (get_or s p 0) ≡ true → Judged (Err (Malformed (length s)))
      cut_second h z l ok = (
        cut l,
        each (Before (Malformed (length s))) (λ a. inr (refl, omega arith)) (λ a b. absurd (not_deep z b)) (λ a b. never (cc (sym ok ∙ b))) (λ a b c. absurd (omega arith)),
      )

      unlisted_here : (d ≡ 0 → ⊥) → p + 1 < length s → get_or s p 0 ≡ line_code_lem → m ≤ get_or s (p + 1) 0 → Judged (Err (Malformed (p + 1)))
      unlisted_here z h e l = (
        unlisted h e l,
        each (Before (Malformed (p + 1))) (λ a. absurd (omega arith)) (λ a b. absurd (not_deep z b)) (λ a b. never (cc (sym (admits_line e) ∙ b))) (λ a b c. inr (refl, omega arith)),
      )

      misplaced_here : p < length s → (d ≡ 0 → ⊥) → admits x (get_or s p 0) ≡ false → Judged (Err (Malformed p))
      misplaced_here h z e = (
        misplaced h e,
        each (Before (Malformed p)) (λ a. inl (omega arith)) (λ a b. absurd (not_deep z b)) (λ a b. inr (refl, omega arith)) (λ a b c. inl (omega arith)),
      )

      line_here : (d ≡ 0 → ⊥) → p + 1 < length s → get_or s p 0 ≡ line_code_lem → get_or s (p + 1) 0 < m → Judged (Ok Line)
      line_here z h e l =
          (each (λ q. ⊥) (λ a. omega arith) (λ a b. not_deep z b) (λ a b. never (cc (sym (admits_line e) ∙ b))) (λ a b c. omega arith), h, e)

      node_here : (d ≡ 0 → ⊥) → p + 1 < length s → (get_or s p 0 ≡ line_code_lem → ⊥) → get_or s p 0 ≡ code_of x.kind → Judged (Ok (Children (get_or s (p + 1) 0)))
      node_here z h n e =
          (each (λ q. ⊥) (λ a. omega arith) (λ a b. not_deep z b) (λ a b. never (cc (sym (admits_kind e) ∙ b))) (λ a b c. n b), h, e, refl, positive d z)
        where
          positive : (d : ℕ) → (d ≡ 0 → ⊥) → 0 < d
          positive zero n = absurd (n refl)
          positive (suc d) n = omega arith

      judged : Judged (head_of s m d (code_of x.kind) p)
      unfolding head_of line_head_lem children_head_lem
      judged =
          go (ltb p (length s)) refl (eqb d 0) refl (eqb (get_or s p 0) line_code_lem) refl (eqb (get_or s p 0) (code_of x.kind)) refl (ltb (p + 1) (length s)) refl
          (ltb (get_or s (p + 1) 0) m) refl
        where
          go : (a : Bool) → ltb p (length s) ≡ a → (b : Bool) → eqb d 0 ≡ b → (c : Bool) → eqb (get_or s p 0) line_code_lem ≡ c
              → (e : Bool) → eqb (get_or s p 0) (code_of x.kind) ≡ e → (f : Bool) → ltb (p + 1) (length s) ≡ f → (g : Bool) → ltb (get_or s (p + 1) 0) m ≡ g
              → Judged (cond a (cond b (Err (TooDeep p))
              (cond c (cond f (cond g (Ok Line) (Err (Malformed (p + 1)))) (Err (Malformed (length s))))
              (cond e (cond f (Ok (Children (get_or s (p + 1) 0))) (Err (Malformed (length s)))) (Err (Malformed p)))))
              (Err (Malformed (length s))))
          go false i b j c k e l f n g o = cut_here (ltb-false _ _ i)
          go true i true j c k e l f n g o = deep_here (ltb-true _ _ i) (eqb-true _ _ j)
          go true i false j true k e l false n g o = cut_second (ltb-true _ _ i) (eqb-false _ _ j) (ltb-false _ _ n) (admits_line (eqb-true _ _ k))
          go true i false j true k e l true n false o = unlisted_here (eqb-false _ _ j) (ltb-true _ _ n) (eqb-true _ _ k) (ltb-false _ _ o)
          go true i false j true k e l true n true o = line_here (eqb-false _ _ j) (ltb-true _ _ n) (eqb-true _ _ k) (ltb-true _ _ o)
          go true i false j false k false l f n g o = misplaced_here (ltb-true _ _ i) (eqb-false _ _ j) (admits_none k l)
          go true i false j false k true l false n g o = cut_second (ltb-true _ _ i) (eqb-false _ _ j) (ltb-false _ _ n) (admits_kind (eqb-true _ _ l))
          go true i false j false k true l true n g o = node_here (eqb-false _ _ j) (ltb-true _ _ n) (eqb-false _ _ k) (eqb-true _ _ l)

module _ (s : List ℕ) (m : ℕ) where
  -- ---- what is to come
  after_line : (k : ℕ) (x : Due) (xs : List Due) → ahead s k ≡ nodes (x ∷ xs) → 2 * k + 1 < length s → get_or s (2 * k) 0 ≡ line_code_lem → ahead s (suc k) ≡ nodes xs
  unfolding ahead
  after_line k x xs e h c = ap (behind_node s k) e ∙ rw (lt-ltb _ _ h, c)

  after_node : (k : ℕ) (x : Due) (xs : List Due) (l : Kind) → ahead s k ≡ nodes (x ∷ xs) → 2 * k + 1 < length s → get_or s (2 * k) 0 ≡ code_of l
      → ahead s (suc k) ≡ nodes (replicate (get_or s (2 * k + 1) 0) (child_of x.depth l) ++ xs)
  unfolding ahead
  after_node k x xs AllOf e h c = ap (behind_node s k) e ∙ rw (lt-ltb _ _ h, c)
  after_node k x xs AnyOf e h c = ap (behind_node s k) e ∙ rw (lt-ltb _ _ h, c)

  nothing_after : (k : ℕ) → ahead s k ≡ nodes [] → (i : ℕ) → k < i → ahead s i ≡ unknown
  unfolding ahead
  nothing_after k h zero l = absurd (omega arith)
  nothing_after k h (suc i) l = go (dec_lt k i) (nothing_after k h i)
    where
      go : Dec (k < i) → (k < i → ahead s i ≡ unknown) → ahead s (suc i) ≡ unknown
      go (yes y) f = ap (behind_node s i) (f y)
      go (no y) f =
          let e : i ≡ k = omega arith in
          ap (behind_node s i) (ap (ahead s) e ∙ h)

  -- it is known up to the length
  within : (k : ℕ) (xs : List Due) → ahead s k ≡ nodes xs → 2 * k ≤ length s
  unfolding ahead
  within zero xs e = omega arith
  within (suc k) xs e = go (ahead s k) e
    where
      at : (t : Bool) (a : Ahead) → ltb (2 * k + 1) (length s) ≡ t → cond t a unknown ≡ nodes xs → 2 * suc k ≤ length s
      at true a h e = omega (arith, ltb-true (2 * k + 1) (length s) h)
      at false a h e = never (cc)

      go : (a : Ahead) → behind_node s k a ≡ nodes xs → 2 * suc k ≤ length s
      go unknown e = never (cc)
      go (nodes []) e = never (cc)
      go (nodes (x ∷ ys)) e = at (ltb (2 * k + 1) (length s)) (behind x ys (get_or s (2 * k) 0) (get_or s (2 * k + 1) 0)) refl e

  -- ---- where a fault of node k stands
  at_most : (k : ℕ) (a : Ahead) (r : TreeRefusal) → FaultAt s m k a r → tree_place r ≤ 2 * k + 1
  at_most k unknown r h = absurd h
  at_most k (nodes []) r h = rw h.1 (omega arith)
  at_most k (nodes (x ∷ xs)) r h = each s m x (2 * k) (λ q. tree_place q ≤ 2 * k + 1) (λ a. a) (λ a b. omega arith) (λ a b. omega arith) (λ a b c. omega arith) r h

  at_least : (k : ℕ) (a : Ahead) (r : TreeRefusal) → ahead s k ≡ a → FaultAt s m k a r → 2 * k ≤ tree_place r
  at_least k unknown r e h = absurd h
  at_least k (nodes []) r e h = rw h.1 (omega arith)
  at_least k (nodes (x ∷ xs)) r e h = each s m x (2 * k) (λ q. 2 * k ≤ tree_place q) (λ a. within k (x ∷ xs) e) (λ a b. omega arith) (λ a b. omega arith) (λ a b c. omega arith) r h

  -- ---- what reading comes to
  abbrev Clean : ℕ → Type 0
  Clean k = (q : TreeRefusal) → FaultAt s m k (ahead s k) q → ⊥

  -- from node j on to an end, where these nodes are to come
  record Passed (j : ℕ) (rest : List Due) (end : ℕ) : Type 0 where
    next : ℕ
    ends : end ≡ 2 * next
    later : j ≤ next
    due : ahead s next ≡ nodes rest
    clean : (i : ℕ) → j ≤ i → i < next → Clean i

  record Stopped (j : ℕ) (r : TreeRefusal) : Type 0 where
    node : ℕ
    at : FaultAt s m node (ahead s node) r
    first : (q : TreeRefusal) → FaultAt s m node (ahead s node) q → Before r q
    later : j ≤ node
    clean : (i : ℕ) → j ≤ i → i < node → Clean i

  abbrev Comes : ℕ → List Due → Result Node TreeRefusal → Type 0
  Comes j rest (Ok b) = Passed j rest b.end
  Comes j rest (Err r) = Stopped j r

  -- from an earlier node, with none at fault in between
  earlier : (i j : ℕ) (rest : List Due) (r : Result Node TreeRefusal) → i ≤ j → ((k : ℕ) → i ≤ k → k < j → Clean k) → Comes j rest r → Comes i rest r
  earlier i j rest (Ok b) h f p =
      record { next = p.next; ends = p.ends; later = omega (arith, p.later); due = p.due; clean = λ k l n. go k l n (dec_lt k j) }
    where
      go : (k : ℕ) → i ≤ k → k < p.next → Dec (k < j) → Clean k
      go k l n (yes y) = f k l y
      go k l n (no y) = p.clean k (omega arith) n
  earlier i j rest (Err r) h f p =
      record { node = p.node; at = p.at; first = p.first; later = omega (arith, p.later); clean = λ k l n. go k l n (dec_lt k j) }
    where
      go : (k : ℕ) → i ≤ k → k < p.node → Dec (k < j) → Clean k
      go k l n (yes y) = f k l y
      go k l n (no y) = p.clean k (omega arith) n

  one_more : (j : ℕ) (rest : List Due) (r : Result Node TreeRefusal) → Clean j → Comes (suc j) rest r → Comes j rest r
  one_more j rest r c p = earlier j (suc j) rest r (omega arith) (λ k l n. subst Clean (the_same k l n) c) p
    where
      the_same : (k : ℕ) → j ≤ k → k < suc j → j ≡ k
      the_same k l n = omega arith

  closed_comes : (j at : ℕ) (rest : List Due) (r : Result Node TreeRefusal) → Comes j rest r → Comes j rest (closed at r)
  closed_comes j at rest (Ok b) p = record { next = p.next; ends = p.ends; later = p.later; due = p.due; clean = p.clean }
  closed_comes j at rest (Err r) p = p

  -- ---- children, and a node
  abbrev Reads : (ℕ → Result Node TreeRefusal) → Due → Type 0
  Reads f x = (j : ℕ) (rest : List Due) → ahead s j ≡ nodes (x ∷ rest) → Comes j rest (f (2 * j))

  children_come : (k : Kind) (x : Due) (f : ℕ → Result Node TreeRefusal) → Reads f x → (n : ℕ) (a : Node) (j : ℕ) (rest : List Due) → a.end ≡ 2 * j
      → ahead s j ≡ nodes (replicate n x ++ rest) → Comes j rest (children_of f k n a)
  unfolding children_of
  children_come k x f g zero a j rest e h = record { next = j; ends = e; later = omega arith; due = h; clean = λ i l n. absurd (omega arith) }
  children_come k x f g (suc n) a j rest e h =
      go (f a.end) (subst (λ (p : ℕ). Comes j (replicate n x ++ rest) (f p)) (sym e) (g j (replicate n x ++ rest) h)) (λ b i q u. children_come k x f g n (with_child k a b) i rest q u)
    where
      go : (r : Result Node TreeRefusal) → Comes j (replicate n x ++ rest) r
          → ((b : Node) (i : ℕ) → b.end ≡ 2 * i → ahead s i ≡ nodes (replicate n x ++ rest) → Comes i rest (children_of f k n (with_child k a b)))
          → Comes j rest (onward (λ (b : Node). children_of f k n (with_child k a b)) r)
      go (Ok b) p more = earlier j p.next rest (children_of f k n (with_child k a b)) p.later p.clean (more b p.next p.ends p.due)
      go (Err r) p more = p

  -- behind the head of the node, where f reads its children
  opened_comes : (d : ℕ) (x : Due) (j : ℕ) (rest : List Due) → ahead s j ≡ nodes (x ∷ rest) → (f : ℕ → Result Node TreeRefusal) → (0 < d → Reads f (child_of x.depth x.kind))
      → (h : Result Head TreeRefusal) → Judged s m x (2 * j) d h → Comes j rest (opened s f x.kind (2 * j) h)
  opened_comes d x j rest e f g (Ok Line) h =
      one_more j rest (Ok (begun s (2 * j) 1)) (λ q u. h.0 q (subst (λ (a : Ahead). FaultAt s m j a q) e u))
      (record { next = suc j; ends = omega arith; later = omega arith; due = after_line j x rest e h.1 h.2; clean = λ i l n. absurd (omega arith) })
  opened_comes d x j rest e f g (Ok (Children n)) h =
      let due : ahead s (suc j) ≡ nodes (replicate n (child_of x.depth x.kind) ++ rest)
      = after_node j x rest x.kind e h.1 h.2 ∙ ap (λ (i : ℕ). nodes (replicate i (child_of x.depth x.kind) ++ rest)) h.3 in
      let inside : Comes (suc j) rest (children_of f x.kind n (begun s (2 * j) (unit_of x.kind)))
      = children_come x.kind (child_of x.depth x.kind) f (g h.4) n (begun s (2 * j) (unit_of x.kind)) (suc j) rest (omega arith) due in
      let read : Result Node TreeRefusal = children_of f x.kind n (begun s (2 * j) (unit_of x.kind)) in
      one_more j rest (closed (2 * j) read) (λ q u. h.0 q (subst (λ (a : Ahead). FaultAt s m j a q) e u)) (closed_comes (suc j) (2 * j) rest read inside)
  opened_comes d x j rest e f g (Err r) h =
      record {
        node = j;
        at = subst (λ (a : Ahead). FaultAt s m j a r) (sym e) h.0;
        first = λ q u. h.1 q (subst (λ (a : Ahead). FaultAt s m j a q) e u);
        later = omega arith;
        clean = λ i l n. absurd (omega arith);
      }

  not_false : {A : Type 0} → true ≡ false → A
  not_false e = never (cc)

  node_comes : (d : ℕ) (x : Due) → x.depth + d ≡ max_depth + 1 → (j : ℕ) (rest : List Due) → (x.or_line ≡ false → get_or s (2 * j) 0 ≡ line_code_lem → ⊥)
      → ahead s j ≡ nodes (x ∷ rest) → Comes j rest (node_of s m d x.kind (2 * j))
  unfolding node_of
  node_comes zero x h j rest no_line e =
      opened_comes zero x j rest e (λ p. Err (TooDeep p)) (λ l. absurd (omega arith)) (head_of s m zero (code_of x.kind) (2 * j)) (judged s m x (2 * j) zero h no_line)
  node_comes (suc d) x h j rest no_line e =
      opened_comes (suc d) x j rest e (node_of s m d (other x.kind))
      (λ l i more u. node_comes d (child_of x.depth x.kind) (omega arith) i more (λ n. not_false n) u) (head_of s m (suc d) (code_of x.kind) (2 * j)) (judged s m x (2 * j) (suc d) h no_line)

  -- ---- the whole tree
  abbrev Ends : Result Node TreeRefusal → Type 0
  Ends (Ok b) = (q : TreeRefusal) → Fault s m q → ⊥
  Ends (Err r) = FirstFault s m r

  stopped_first : (r : TreeRefusal) → Stopped 0 r → FirstFault s m r
  stopped_first r p = record { fault = record { node = p.node; at = p.at }; first = λ q u. go q u.node u.at (dec_lt u.node p.node) (dec_lt p.node u.node) }
    where
      go : (q : TreeRefusal) (k : ℕ) → FaultAt s m k (ahead s k) q → Dec (k < p.node) → Dec (p.node < k) → Before r q
      go q k u (yes l) _ = absurd (p.clean k (omega arith) l q u)
      go q k u (no l) (yes n) = inl (omega (arith, at_most p.node (ahead s p.node) r p.at, at_least k (ahead s k) q refl u))
      go q k u (no l) (no n) =
          let e : k ≡ p.node = omega arith in
          p.first q (subst (λ (i : ℕ). FaultAt s m i (ahead s i) q) e u)

  passed_clean : (end : ℕ) → Passed 0 [] end → length s ≤ end → (q : TreeRefusal) → Fault s m q → ⊥
  passed_clean end p l q u = go u.node u.at (dec_lt u.node p.next) (dec_lt p.next u.node)
    where
      go : (k : ℕ) → FaultAt s m k (ahead s k) q → Dec (k < p.next) → Dec (p.next < k) → ⊥
      go k h (yes y) _ = p.clean k (omega arith) y q h
      go k h (no y) (yes n) = subst (λ (a : Ahead). FaultAt s m k a q) (nothing_after p.next p.due k n) h
      go k h (no y) (no n) =
          let e : k ≡ p.next = omega arith in
          let f = subst (λ (a : Ahead). FaultAt s m k a q) (ap (ahead s) e ∙ p.due) h in
          omega (arith, f.0, p.ends)

  whole_ends : (r : Result Node TreeRefusal) → Comes 0 [] r → Ends (whole_tree_lem s r)
  whole_ends (Err r) p = stopped_first r p
  whole_ends (Ok b) p = go (ltb b.end (length s)) refl
    where
      go : (t : Bool) → ltb b.end (length s) ≡ t → Ends (cond t (Err (Malformed b.end)) (Ok b))
      go true e =
          let l : 2 * p.next < length s = omega (arith, ltb-true b.end (length s) e, p.ends) in
          stopped_first (Malformed b.end)
          (record {
            node = p.next;
            at = subst (λ (a : Ahead). FaultAt s m p.next a (Malformed b.end)) (sym p.due) (l, ap Malformed p.ends);
            first = λ q u. let f = subst (λ (a : Ahead). FaultAt s m p.next a q) p.due u in rw f.1 (inr (p.ends, omega arith));
            later = p.later;
            clean = p.clean;
          })
      go false e = passed_clean b.end p (ltb-false _ _ e)

  start : ahead s 0 ≡ nodes (root ∷ [])
  unfolding ahead
  start = refl

  tree_ends : Ends (tree_of s m)
  unfolding tree_of root_is_line_lem
  tree_ends = go (eqb (get_or s 0 0) line_code_lem) refl
    where
      some : (l : List ℕ) → get_or l 0 0 ≡ line_code_lem → 0 < length l
      some [] e = absurd (omega arith)
      some (y ∷ l) e = omega arith

      at_root : get_or s 0 0 ≡ line_code_lem → Stopped 0 (Malformed 0)
      at_root e =
          let l : 0 < length s = some s e in
          let j : NodeFault s m root 0 (Malformed 0) = misplaced l (rw e refl) in
          let f : (q : TreeRefusal) → NodeFault s m root 0 q → Before (Malformed 0) q
          = each s m root 0 (Before (Malformed 0)) (λ a. inl l) (λ a b. absurd (omega arith)) (λ a b. inr (refl, omega arith)) (λ a b c. inl (omega arith)) in
          record {
            node = 0;
            at = subst (λ (a : Ahead). FaultAt s m 0 a (Malformed 0)) (sym start) j;
            first = λ q u. f q (subst (λ (a : Ahead). FaultAt s m 0 a q) start u);
            later = omega arith;
            clean = λ i l n. absurd (omega arith);
          }

      go : (t : Bool) → eqb (get_or s 0 0) line_code_lem ≡ t → Ends (cond t (Err (Malformed 0)) (whole_tree_lem s (node_of s m max_depth AllOf 0)))
      go true e = stopped_first (Malformed 0) (at_root (eqb-true _ _ e))
      go false e = whole_ends (node_of s m max_depth AllOf 0) (node_comes max_depth root refl 0 [] (λ n. eqb-false _ _ e) start)

  pub refused_first : (r : TreeRefusal) → tree_of s m ≡ Err r → FirstFault s m r
  refused_first r e = subst Ends e tree_ends

  pub read_clean : (b : Node) → tree_of s m ≡ Ok b → (q : TreeRefusal) → Fault s m q → ⊥
  read_clean b e = subst Ends e tree_ends

-- ---- a refusal is known by its number and its place
abbrev refusal_with : ℕ → ℕ → TreeRefusal
refusal_with n k = cond (eqb n 40) (TooManyChoices k) (cond (eqb n 41) (Malformed k) (cond (eqb n 42) (TooDeep k) NoSuchChoice))

known : (r : TreeRefusal) → refusal_with (tree_number r) (tree_place r) ≡ r
known (TooManyChoices k) = refl
known (Malformed k) = refl
known (TooDeep k) = refl
known NoSuchChoice = refl

pub one_tree_refusal : (r q : TreeRefusal) → tree_number r ≡ tree_number q → tree_place r ≡ tree_place q → r ≡ q
one_tree_refusal r q n p = sym (known r) ∙ ap₂ refusal_with n p ∙ known q

-- ---- there is one first fault, and it is what is refused
pub one_first : (s : List ℕ) (m : ℕ) (r q : TreeRefusal) → FirstFault s m r → FirstFault s m q → r ≡ q
one_first s m r q f g = go (f.first q g.fault) (g.first r f.fault)
  where
    go : Before r q → Before q r → r ≡ q
    go (inl a) (inl b) = absurd (omega arith)
    go (inl a) (inr b) = absurd (omega (arith, b.0))
    go (inr a) (inl b) = absurd (omega (arith, a.0))
    go (inr a) (inr b) = one_tree_refusal r q (omega (arith, a.1, b.1)) a.0

pub refused_exactly : (s : List ℕ) (m : ℕ) (r : TreeRefusal) → (tree_of s m ≡ Err r) ↔ FirstFault s m r
refused_exactly s m r = (refused_first s m r, (λ f. go f (tree_of s m) refl))
  where
    go : FirstFault s m r → (x : Result Node TreeRefusal) → tree_of s m ≡ x → x ≡ Err r
    go f (Ok b) e = absurd (read_clean s m b e r f.fault)
    go f (Err q) e = ap Err (one_first s m q r (refused_first s m q e) f)

-- the numbers of a tree that fits, which has no fault; or there is a first fault
pub record Faultless (s : List ℕ) (m : ℕ) : Type 0 where
  pub tree : Row
  pub fits : Fits m AllOf levels tree
  pub numbered : s ≡ tree_numbers tree
  pub faultless : (q : TreeRefusal) → Fault s m q → ⊥

pub tree_or_fault : (s : List ℕ) (m : ℕ) → Faultless s m ⊎ ((r : TreeRefusal) × FirstFault s m r)
tree_or_fault s m = go (tree_of s m) refl
  where
    go : (x : Result Node TreeRefusal) → tree_of s m ≡ x → Faultless s m ⊎ ((r : TreeRefusal) × FirstFault s m r)
    go (Ok b) e = let t = accepted s m b e in inl (record { tree = t.tree; fits = t.fits; numbered = t.numbered; faultless = read_clean s m b e })
    go (Err r) e = inr (r, refused_first s m r e)

pub tree_has_no_fault : (t : Row) (m : ℕ) → Fits m AllOf levels t → (q : TreeRefusal) → Fault (tree_numbers t) m q → ⊥
tree_has_no_fault t m f = read_clean (tree_numbers t) m _ (read_back t m f)
