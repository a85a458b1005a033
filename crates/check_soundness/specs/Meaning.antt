-- The checker's rule says yes exactly to the specification's three kinds.
use Rattle.std.specs.Prelude.{◌≡◌, refl, ◌↔◌, Bool, true, false, cond, ◌&&◌, List, [], ◌∷◌, ◌++◌, ℕ, zero, suc, ◌+◌, ◌/◌, ◌%◌, ◌<◌, ◌≤◌, eqb, ltb, ℤ, ◌+ℤ◌, get_or}
use Rattle.std.proofs.Common.{sym, ap₂, ◌∙◌, arith, lt-ltb, le-ltb, ltb-true, eq-eqb, eqb-true, take-append-drop, length-append, take_all, take_at, drop_at}
use Rattle.std.proofs.Math.Path.{ap, subst}
use Rattle.std.proofs.Math.IntN.{pos}
use Rattle.std.proofs.Math.ListN.{length, take, drop, length-drop}
use Rattle.std.proofs.Math.Seq.{length-take-le}
use Rattle.std.specs.Int.Signed.{lt_z}
use Rattle.integers.specs.Integer.{◌⋖◌, half}
use Rattle.integers.proofs.Linear.{ints}
use Rattle.integers.specs.Laws.{and_true, both_true}
use Rattle.lines.specs.Line.{line_at, line_count, is_false_lem}
use Rattle.steps.specs.declared.Step.{Step}
use Rattle.steps.specs.Point.{opposite}
use Rattle.steps.specs.Walk.{Path, total, Names, path_append, names_append, names_length}
use Rattle.check_refutation.specs.declared.Progress.{Progress}
use Rattle.check_refutation.specs.Progress.{head_size, start, counts_ok_lem, is_false_step_lem, head_on, only_if_lem, advance, run, closes, accepted, accepts}
use Rattle.check_refutation.specs.Small.{run_read}
use Rattle.check_soundness.specs.Run.{no_true, run_good, run_same, end_after, Headed, body}
use Rattle.check_soundness.specs.Good.{body_good}
use Rattle.check_soundness.specs.Head.{Suits, one_walk, two_walks, one_line, Shape, cut, whole, shape}
use Rattle.check_soundness.specs.Refutes.{Closed, There-and-back, FalseStep, Falsehood, Refutes, kind_1, kind_2, kind_3}

-- ---- walks cut after n steps
path_cut : (n u v : ℕ) (ts : List Step) → Path u ts v → Path u (take n ts) (end_after n u ts) × Path (end_after n u ts) (drop n ts) v
path_cut zero u v ts p = (refl, p)
path_cut (suc n) u v [] p = (refl, p)
path_cut (suc n) u v (t ∷ ts) p = let r = path_cut n t.to v ts p.1 in ((p.0, r.0), r.1)

names_cut : (L : List ℤ) (n : ℕ) (ks : List ℕ) (ts : List Step) → Names L ks ts → Names L (take n ks) (take n ts) × Names L (drop n ks) (drop n ts)
names_cut L zero ks ts h = (tt, h)
names_cut L (suc n) [] [] h = (tt, tt)
names_cut L (suc n) [] (t ∷ ts) h = absurd h
names_cut L (suc n) (k ∷ ks) [] h = absurd h
names_cut L (suc n) (k ∷ ks) (t ∷ ts) h = let r = names_cut L n ks ts h.1 in ((h.0, r.0), r.1)

-- ---- the head
unfoldable pub headed : ℕ → ℕ → ℕ → Progress
headed k p q = record { read = head_size; kind = k; p = p; q = q; u = 0; here = 0; first = pos 0; second = pos 0; good = counts_ok_lem k p q; wrong = 0 }

pub is_headed : (k p q : ℕ) → 0 < p → Headed (headed k p q)
unfolding headed
is_headed k p q h = record { read = refl; some = h; first = refl; second = refl }

pub run_headed : (L : List ℤ) (k p q : ℕ) (R : List ℕ) → run L start (k ∷ p ∷ q ∷ R) ≡ run L (headed k p q) R
unfolding run advance head_on headed
run_headed L k p q R = refl

-- what an accepted end says
pub record End (L : List ℤ) (k p q : ℕ) (R : List ℕ) : Type 0 where
  pub good : (run L (headed k p q) R).good ≡ true
  pub counts : counts_ok_lem k p q ≡ true
  pub size : length R ≡ p + q
  pub closed : closes (run L (headed k p q) R) ≡ true
  pub kind : (run L (headed k p q) R).kind ≡ k

accepted_says : (s : Progress) → accepted s ≡ true → (s.good ≡ true) × (s.read ≡ head_size + s.p + s.q) × (closes s ≡ true)
unfolding accepted
accepted_says s e =
    let a = and_true s.good (eqb s.read (head_size + s.p + s.q) && closes s) e in
    let b = and_true (eqb s.read (head_size + s.p + s.q)) (closes s) a.1 in
    (a.0, eqb-true _ _ b.0, b.1)

-- what has no whole head is not accepted
pub cut_no : (L : List ℤ) (R : List ℕ) → length R < head_size → accepts L R ≡ true → ⊥
unfolding accepts
cut_no L R h e = omega (arith, run_read L start R, (accepted_says (run L start R) e).1)

pub end_of : (L : List ℤ) (k p q : ℕ) (R : List ℕ) → accepts L (k ∷ p ∷ q ∷ R) ≡ true → End L k p q R
unfolding accepts headed
end_of L k p q R e =
    let a = accepted_says (run L (headed k p q) R) (ap accepted (sym (run_headed L k p q R)) ∙ e) in
    let same = run_same L (headed k p q) R (omega arith) in
    record {
      good = a.0;
      counts = run_good L (headed k p q) R a.0;
      size = omega (arith, a.1, run_read L (headed k p q) R, same.p, same.q);
      closed = a.2;
      kind = same.kind;
    }

-- ---- the kinds and their counts
pub counts_suit : (k p q : ℕ) → (counts_ok_lem k p q ≡ true) ↔ Suits k p q
unfolding counts_ok_lem
counts_suit k p q = (go (eqb k 1) (eqb k 2) (eqb k 3) refl refl refl, back)
  where
    go : (a b c : Bool) → eqb k 1 ≡ a → eqb k 2 ≡ b → eqb k 3 ≡ c → cond a (ltb 0 p && eqb q 0) (cond b (ltb 0 p && ltb 0 q) (cond c (eqb p 1 && eqb q 0) false)) ≡ true → Suits k p q
    go true b c x y z e = let t = and_true (ltb 0 p) (eqb q 0) e in one_walk (eqb-true k 1 x) (ltb-true 0 p t.0) (eqb-true q 0 t.1)
    go false true c x y z e = let t = and_true (ltb 0 p) (ltb 0 q) e in two_walks (eqb-true k 2 y) (ltb-true 0 p t.0) (ltb-true 0 q t.1)
    go false false true x y z e = let t = and_true (eqb p 1) (eqb q 0) e in one_line (eqb-true k 3 z) (eqb-true p 1 t.0) (eqb-true q 0 t.1)
    go false false false x y z e = absurd (no_true e)

    back : Suits k p q → counts_ok_lem k p q ≡ true
    back (one_walk a b c) = rw (a, c) (both_true _ _ (lt-ltb 0 p b) refl)
    back (two_walks a b c) = rw a (both_true _ _ (lt-ltb 0 p b) (lt-ltb 0 q c))
    back (one_line a b c) = rw (a, b, c)

-- ---- when a walk of a kind closes
below : (z : ℤ) → (lt_z z (pos 0) ≡ true) ↔ (z ⋖ pos 0)
below z = (to z, from z)
  where
    to : (z : ℤ) → lt_z z (pos 0) ≡ true → z ⋖ pos 0
    to z = simp ints (omega arith)

    from : (z : ℤ) → z ⋖ pos 0 → lt_z z (pos 0) ≡ true
    from z = simp ints (omega arith)

module _ (f : Progress) where
  closes_as : ℕ → Bool
  closes_as k = cond (eqb k 3) true (eqb f.here f.u && cond (eqb k 1) (lt_z f.first (pos 0)) (lt_z (half f.first +ℤ half f.second) (pos 0)))

  pub closes_1 : f.kind ≡ 1 → (closes f ≡ true) ↔ ((f.here ≡ f.u) × (f.first ⋖ pos 0))
  unfolding closes closes_as
  closes_1 k = (
    (λ e. let t = and_true (eqb f.here f.u) (lt_z f.first (pos 0)) (ap closes_as (sym k) ∙ e) in (eqb-true _ _ t.0, (below f.first).0 t.1)),
    (λ h. ap closes_as k ∙ both_true _ _ (eq-eqb _ _ h.0) ((below f.first).1 h.1)),
  )

  pub closes_2 : f.kind ≡ 2 → (closes f ≡ true) ↔ ((f.here ≡ f.u) × (half f.first +ℤ half f.second ⋖ pos 0))
  unfolding closes closes_as
  closes_2 k = (
    (λ e. let t = and_true (eqb f.here f.u) (lt_z (half f.first +ℤ half f.second) (pos 0)) (ap closes_as (sym k) ∙ e) in (eqb-true _ _ t.0, (below (half f.first +ℤ half f.second)).0 t.1)),
    (λ h. ap closes_as k ∙ both_true _ _ (eq-eqb _ _ h.0) ((below (half f.first +ℤ half f.second)).1 h.1)),
  )

  pub closes_3 : f.kind ≡ 3 → closes f ≡ true
  unfolding closes closes_as
  closes_3 k = ap closes_as k

-- ---- whatever is accepted is of one of the three kinds
head_is : {k p q a b c : ℕ} {R S : List ℕ} → k ≡ a → p ≡ b → q ≡ c → R ≡ S → k ∷ p ∷ q ∷ R ≡ a ∷ b ∷ c ∷ S
head_is e f g h = cc

module _ (L : List ℤ) (k p q : ℕ) (S : List ℕ) (e : End L k p q S) where
  abbrev f : Progress
  f = run L (headed k p q) S

  closed_of : k ≡ 1 → 0 < p → q ≡ 0 → Closed L (k ∷ p ∷ q ∷ S)
  unfolding headed
  closed_of a h z =
      let some : 0 < length S = omega (arith, e.size) in
      let b = body L (headed k p q) S (is_headed k p q h) (λ x. omega arith) some e.good in
      let c = (closes_1 f (e.kind ∙ a)).0 e.closed in
      let size : length b.steps ≤ p = omega (arith, e.size, names_length L S b.steps b.named) in
      record {
        numbers = S;
        point = f.u;
        is = head_is a (omega (arith, e.size)) z refl;
        walk = record { steps = b.steps; some = some; named = b.named; path = subst (λ (v : ℕ). Path f.u b.steps v) c.0 b.path };
        low = subst (λ (x : ℤ). x ⋖ pos 0) (b.first ∙ ap total (take_all p b.steps size)) c.1;
      }

  there_and_back_of : k ≡ 2 → 0 < p → 0 < q → There-and-back L (k ∷ p ∷ q ∷ S)
  unfolding headed
  there_and_back_of a h z =
      let b = body L (headed k p q) S (is_headed k p q h) (λ x. omega arith) (omega (arith, e.size)) e.good in
      let c = (closes_2 f (e.kind ∙ a)).0 e.closed in
      let ts = b.steps in
      let size : length ts ≡ p + q = names_length L S ts b.named ∙ e.size in
      let first : length (take p S) ≡ p = length-take-le p S (omega (arith, e.size)) in
      let second : length (drop p S) ≡ q = length-drop p S ∙ omega (arith, e.size) in
      let names = names_cut L p S ts b.named in
      let halves = path_cut p f.u f.here ts b.path in
      let turn : end_after p f.u ts ≡ opposite f.u = b.turn a (omega arith) in
      record {
        numbers = take p S;
        more = drop p S;
        point = f.u;
        is = head_is a (sym first) (sym second) (sym (take-append-drop p S));
        there = record { steps = take p ts; some = omega arith; named = names.0; path = subst (λ (v : ℕ). Path f.u (take p ts) v) turn halves.0 };
        back = record {
          steps = drop p ts;
          some = omega arith;
          named = names.1;
          path = subst (λ (v : ℕ). Path v (drop p ts) f.u) turn (subst (λ (v : ℕ). Path (end_after p f.u ts) (drop p ts) v) c.0 halves.1);
        };
        low = subst (λ (x : ℤ). x ⋖ pos 0) (ap₂ (λ (x y : ℤ). half x +ℤ half y) b.first b.second) c.1;
      }

advance_false : (L : List ℤ) (s : Progress) (r : ℕ) → head_size ≤ s.read → s.kind ≡ 3 → advance L s r ≡ only_if_lem s (is_false_step_lem L r)
unfolding advance
advance_false L s r h k = rw (le-ltb s.read head_size h, eq-eqb s.kind 3 k)

false_step : (L : List ℤ) (r : ℕ) → (is_false_step_lem L r ≡ true) ↔ FalseStep L r
unfolding is_false_step_lem
false_step L r = (
  (λ e.
      let a = and_true (eqb (r % 2) 0) (ltb (r / 2) (line_count L) && is_false_lem (line_at L (r / 2))) e in
      let b = and_true (ltb (r / 2) (line_count L)) (is_false_lem (line_at L (r / 2))) a.1 in
      let even : r % 2 ≡ 0 = eqb-true (r % 2) 0 a.0 in
      record { line = r / 2; is = omega arith; within = ltb-true _ _ b.0; false_line = b.1 }),
  (λ w.
      let even : r % 2 ≡ 0 = omega (arith, w.is) in
      let same : r / 2 ≡ w.line = omega (arith, w.is) in
      rw (even, same) (both_true _ _ (lt-ltb w.line (line_count L) w.within) w.false_line)),
)

-- kind 3 reads one number
one_number : (S : List ℕ) → length S ≡ 1 → S ≡ get_or S 0 0 ∷ []
one_number [] e = absurd (omega arith)
one_number (r ∷ []) e = refl
one_number (r ∷ s ∷ S) e = absurd (omega arith)

pub good_line : (L : List ℤ) (k p q : ℕ) (S : List ℕ) → k ≡ 3 → counts_ok_lem k p q ≡ true → length S ≡ 1 → ((run L (headed k p q) S).good ≡ true) ↔ FalseStep L (get_or S 0 0)
unfolding run headed
good_line L k p q S a c l =
    let r = get_or S 0 0 in
    let e : (run L (headed k p q) S).good ≡ (counts_ok_lem k p q && is_false_step_lem L r) =
    ap (λ (x : List ℕ). (run L (headed k p q) x).good) (one_number S l) ∙ ap (λ (x : Progress). x.good) (advance_false L (headed k p q) r (omega arith) a) in (
      (λ g. (false_step L r).0 (and_true (counts_ok_lem k p q) (is_false_step_lem L r) (sym e ∙ g)).1),
      (λ w. e ∙ both_true _ _ c ((false_step L r).1 w)),
    )

falsehood_of : (L : List ℤ) (k p q : ℕ) (S : List ℕ) → End L k p q S → k ≡ 3 → p ≡ 1 → q ≡ 0 → Falsehood L (k ∷ p ∷ q ∷ S)
falsehood_of L k p q S e a b c =
    let size : length S ≡ 1 = omega (arith, e.size) in
    record { number = get_or S 0 0; is = head_is a b c (one_number S size); false_step = (good_line L k p q S a e.counts size).0 e.good }

refutes_of : (L : List ℤ) (R : List ℕ) → accepts L R ≡ true → Refutes L R
refutes_of L R e = go (shape R) e
  where
    go : {R : List ℕ} → Shape R → accepts L R ≡ true → Refutes L R
    go {R} (cut h) e = absurd (cut_no L R h e)
    go (whole k p q S) e = let n = end_of L k p q S e in by n ((counts_suit k p q).0 n.counts)
      where
        by : End L k p q S → Suits k p q → Refutes L (k ∷ p ∷ q ∷ S)
        by n (one_walk a b c) = kind_1 (closed_of L k p q S n a b c)
        by n (two_walks a b c) = kind_2 (there_and_back_of L k p q S n a b c)
        by n (one_line a b c) = kind_3 (falsehood_of L k p q S n a b c)

-- ---- and each of the three kinds is accepted
pub names_unique : (L : List ℤ) (ks : List ℕ) (ss ts : List Step) → Names L ks ss → Names L ks ts → ss ≡ ts
names_unique L [] [] [] a b = refl
names_unique L [] [] (t ∷ ts) a b = absurd b
names_unique L [] (s ∷ ss) ts a b = absurd a
names_unique L (k ∷ ks) [] ts a b = absurd a
names_unique L (k ∷ ks) (s ∷ ss) [] a b = absurd b
names_unique L (k ∷ ks) (s ∷ ss) (t ∷ ts) a b = let e : s ≡ t = cc (a.0, b.0) in ap₂ (λ (x : Step) (xs : List Step). x ∷ xs) e (names_unique L ks ss ts a.1 b.1)

path_unique : (a b c d : ℕ) (ts : List Step) → 0 < length ts → Path a ts b → Path c ts d → (a ≡ c) × (b ≡ d)
path_unique a b c d [] l p q = absurd (omega arith)
path_unique a b c d (t ∷ ts) l p q = (p.0 ∙ sym q.0, end t.to b d ts p.1 q.1)
  where
    end : (a b d : ℕ) (ts : List Step) → Path a ts b → Path a ts d → b ≡ d
    end a b d [] p q = sym p ∙ q
    end a b d (t ∷ ts) p q = end t.to b d ts p.1 q.1

-- a good end whose walk closes is accepted
module _ (L : List ℤ) (k p q : ℕ) (R : List ℕ) (size : length R ≡ p + q) where
  pub accepted_end : (run L (headed k p q) R).good ≡ true → closes (run L (headed k p q) R) ≡ true → accepts L (k ∷ p ∷ q ∷ R) ≡ true
  unfolding accepts accepted headed
  accepted_end g c =
      let f = run L (headed k p q) R in
      let same = run_same L (headed k p q) R (omega arith) in
      let all : f.read ≡ head_size + f.p + f.q = omega (arith, run_read L (headed k p q) R, same.p, same.q, size) in
      ap accepted (run_headed L k p q R) ∙ both_true _ _ g (both_true _ _ (eq-eqb _ _ all) c)

-- the walk that the numbers name is the one that the progress followed
record Followed (f : Progress) (p u v : ℕ) (ts : List Step) : Type 0 where
  good : f.good ≡ true
  from : f.u ≡ u
  to : f.here ≡ v
  first : f.first ≡ total (take p ts)
  second : f.second ≡ total (drop p ts)

followed : (L : List ℤ) (k p q : ℕ) (R : List ℕ) (ts : List Step) (u v : ℕ) → counts_ok_lem k p q ≡ true → (k ≡ 3 → ⊥) → 0 < p → 0 < length R
    → Names L R ts → Path u ts v → (k ≡ 2 → p ≤ length ts → end_after p u ts ≡ opposite u) → Followed (run L (headed k p q) R) p u v ts
unfolding headed
followed L k p q R ts u v counts n some more names path turn =
    let good = body_good L (headed k p q) R ts u v (is_headed k p q some) n counts more names path turn in
    let b = body L (headed k p q) R (is_headed k p q some) n more good in
    let f = run L (headed k p q) R in
    let e : b.steps ≡ ts = names_unique L R b.steps ts b.named names in
    let w = path_unique f.u f.here u v ts (omega (arith, names_length L R ts names)) (subst (λ (xs : List Step). Path f.u xs f.here) e b.path) path in
    record {
      good = good;
      from = w.0;
      to = w.1;
      first = b.first ∙ ap (λ (xs : List Step). total (take p xs)) e;
      second = b.second ∙ ap (λ (xs : List Step). total (drop p xs)) e;
    }

accepts_closed : (L : List ℤ) (R : List ℕ) → Closed L R → accepts L R ≡ true
unfolding headed
accepts_closed L R c =
    let ks = c.numbers in
    let w = c.walk in
    let p = length ks in
    let f = run L (headed 1 p 0) ks in
    let o = followed L 1 p 0 ks w.steps c.point c.point ((counts_suit 1 p 0).1 (one_walk refl w.some refl)) (λ x. omega arith) w.some w.some w.named w.path (λ x. absurd (omega arith)) in
    let kind = (run_same L (headed 1 p 0) ks (omega arith)).kind in
    let all : take p w.steps ≡ w.steps = take_all p w.steps (omega (arith, names_length L ks w.steps w.named)) in
    let low : f.first ⋖ pos 0 = subst (λ (x : ℤ). x ⋖ pos 0) (sym (o.first ∙ ap total all)) c.low in
    ap (accepts L) c.is ∙ accepted_end L 1 p 0 ks (omega arith) o.good ((closes_1 f kind).1 (o.to ∙ sym o.from, low))

end_append : (u m : ℕ) (ss ts : List Step) → Path u ss m → end_after (length ss) u (ss ++ ts) ≡ m
end_append u m [] ts p = p
end_append u m (s ∷ ss) ts p = end_append s.to m ss ts p.1

accepts_there_and_back : (L : List ℤ) (R : List ℕ) → There-and-back L R → accepts L R ≡ true
unfolding headed
accepts_there_and_back L R c =
    let ks = c.numbers in
    let ls = c.more in
    let v = c.there in
    let w = c.back in
    let p = length ks in
    let q = length ls in
    let u = c.point in
    let f = run L (headed 2 p q) (ks ++ ls) in
    let ts = v.steps ++ w.steps in
    let first : length v.steps ≡ p = names_length L ks v.steps v.named in
    let size : length (ks ++ ls) ≡ p + q = length-append ks ls in
    let o = followed L 2 p q (ks ++ ls) ts u u ((counts_suit 2 p q).1 (two_walks refl v.some w.some)) (λ x. omega arith) v.some (omega (arith, v.some))
    (names_append L ks ls v.steps w.steps v.named w.named) (path_append u (opposite u) u v.steps w.steps v.path w.path)
    (λ _ _. ap (λ (n : ℕ). end_after n u ts) (sym first) ∙ end_append u (opposite u) v.steps w.steps v.path) in
    let kind = (run_same L (headed 2 p q) (ks ++ ls) (omega arith)).kind in
    let sums : half f.first +ℤ half f.second ≡ half (total v.steps) +ℤ half (total w.steps) =
    ap₂ (λ (x y : ℤ). half x +ℤ half y) (o.first ∙ ap total (take_at v.steps w.steps p first)) (o.second ∙ ap total (drop_at v.steps w.steps p first)) in
    ap (accepts L) c.is
    ∙ accepted_end L 2 p q (ks ++ ls) size o.good ((closes_2 f kind).1 (o.to ∙ sym o.from, subst (λ (x : ℤ). x ⋖ pos 0) (sym sums) c.low))

accepts_falsehood : (L : List ℤ) (R : List ℕ) → Falsehood L R → accepts L R ≡ true
unfolding run headed
accepts_falsehood L R c =
    let r = c.number in
    let kind = (run_same L (headed 3 1 0) (r ∷ []) (omega arith)).kind in
    ap (accepts L) c.is
    ∙ accepted_end L 3 1 0 (r ∷ []) refl ((good_line L 3 1 0 (r ∷ []) refl ((counts_suit 3 1 0).1 (one_line refl refl refl)) refl).1 c.false_step) (closes_3 (run L (headed 3 1 0) (r ∷ [])) kind)

accepts_of : (L : List ℤ) (R : List ℕ) → Refutes L R → accepts L R ≡ true
accepts_of L R (kind_1 c) = accepts_closed L R c
accepts_of L R (kind_2 c) = accepts_there_and_back L R c
accepts_of L R (kind_3 c) = accepts_falsehood L R c

-- the checker says yes exactly for the three kinds
pub accepts_exactly : (L : List ℤ) (R : List ℕ) → (accepts L R ≡ true) ↔ Refutes L R
accepts_exactly L R = (refutes_of L R, accepts_of L R)
