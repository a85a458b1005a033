-- What is read from the numbers of a state that stands, and what the calls make of it.
use Rattle.std.specs.Prelude.{◌≡◌, refl, Bool, true, false, not, List, [], ◌∷◌, ◌++◌, ℕ, ◌+◌, ◌*◌, ◌%◌, ◌<◌, ◌≤◌, ℤ, length, drop, Err, Ok, Result}
use Rattle.std.proofs.Common.{sym, ap, ap₂, subst, ◌∙◌, arith, le-ltb, length-append}
use Rattle.lines.specs.declared.Line.{Line}
use Rattle.lines.specs.declared.Refusal.{Refusal}
use Rattle.lines.specs.declared.Refusal.TheVariants.{AfterNo}
use Rattle.lines.specs.Fits.{numbers_fit}
use Rattle.lines.specs.Limits.{line_size, max_variables, max_lines}
use Rattle.lines.specs.Line.{line_count, lines_of, line_numbers_lem, numbers_of, Solves}
use Rattle.lines.specs.LineNumbers.{length_numbers, length_numbers_of, lines_of_numbers}
use Rattle.lines.specs.Refusal.{refuse_if, lines_validity_lem, validity_of}
use Rattle.lines.specs.Solutions.{solves_append}
use Rattle.lines.specs.Valid.{LinesOk, Workable, Modellable, valid_list, shorter_valid, workable, modellable}
use Rattle.steps.specs.Step.{steps_of}
use Rattle.theory_bounds.specs.Verdict.{verdict_of}
use Rattle.theory_answers.specs.Longer.{yes_before}
use Rattle.decide_buffers.specs.Room.{Lent}
use Rattle.decide.specs.declared.Answer.{Answer}
use Rattle.decide.specs.declared.Answer.TheVariants as decide
use Rattle.decide.specs.Decided.{NotRefused, unless_refused, answer_for, validity_for, Leaves, decide_answer, Decided, decide_ok, judged_yes, refused}
use Rattle.decide.specs.Parts.{answered_valid, yes_answers, no_answers, yes_verdict, no_verdict}
use Rattle.session_step.specs.Meaning.{TableFor}
use Rattle.session_learn.specs.Learnt.{learns, learn_verdict}
use Rattle.session_kept.specs.Kept.{Given}
use Rattle.session_known.specs.Known.{known_after, after_no_line}
use Rattle.session_known.specs.Meaning.{known_after_law, known_model, known_bounds, known_groups}
use Rattle.session_known.specs.Meaning as meaning
use Rattle.session_state.specs.State.{known_room, session_room_lem, front_of, state_of, kept, table_for, known_for, variables_in, count_in, refused_in, numbers_in, numbers_with, table_in, known_in, table_of_known, kept_of_known, is_state_lem, pushed, popped, with_known}
use Rattle.session_state.specs.Laws.{all_fit, state_head, length_numbers_in, table_in_known}
use Rattle.session_state.specs.Session.{numbers_more, length_more, length_front, variables_is, count_is, refused_is, numbers_is, state_is, pushed_is, popped_is, known_is, with_is, beyond_is, known_size, table_known, state_front}
use Rattle.session_promise.specs.Promise.{Stands, add_validity, learns_in, learnt_known, learnt_answer, add_answer, FromKnown, LearntLeft, AddLeft, Adds, no_state}

-- ---- a valid list of lines, and its state
module _ (n : ℕ) (ls : List Line) (v : validity_of n (numbers_of ls) ≡ Ok tt) where
  count_of : line_count (numbers_of ls) ≡ length ls
  count_of = omega (arith, length_numbers_of ls)

  pub variables_few : n ≤ max_variables
  variables_few = (valid_list n (numbers_of ls) v).variables

  pub lines_few : length ls ≤ max_lines
  lines_few = omega (arith, count_of, (valid_list n (numbers_of ls) v).count)

  -- where the last answer was right
  pub stands : (r : Bool) (t rest : List ℤ) → t ≡ state_of n ls r ++ rest → verdict_of n ls ≡ not r → verdict_of n (kept ls r) ≡ true → Stands n ls r t
  stands r t rest e y w =
      let beyond : drop (session_room_lem n) t ≡ rest =
      ap (drop (session_room_lem n)) (e ∙ state_front n ls r rest) ∙ beyond_is n (front_of n ls r) (known_for n (kept ls r)) rest (length_front n ls r lines_few) (known_size n (kept ls r)) in
      record { is = e ∙ ap (λ (x : List ℤ). state_of n ls r ++ x) (sym beyond); valid = v; verdict = y; solvable = w }

-- n within its limit, and no lines
pub empty : (n : ℕ) → n ≤ max_variables → validity_of n (numbers_of []) ≡ Ok tt
unfolding validity_of numbers_of lines_validity_lem
empty n h = rw (le-ltb max_variables n h) refl

-- ---- one line less
pub shorter : (n : ℕ) (ls : List Line) (l : Line) → validity_of n (numbers_of (ls ++ l ∷ [])) ≡ Ok tt → validity_of n (numbers_of ls) ≡ Ok tt
shorter n ls l v =
    let whole : length (numbers_of ls) % line_size ≡ 0 = omega (arith, length_numbers_of ls) in
    shorter_valid n (numbers_of ls) (line_numbers_lem l) whole (ap (validity_of n) (sym (numbers_more ls l)) ∙ v)

-- has a solution, too
pub shorter_yes : (n : ℕ) (ls : List Line) (l : Line) → validity_of n (numbers_of (ls ++ l ∷ [])) ≡ Ok tt → verdict_of n (ls ++ l ∷ []) ≡ true → verdict_of n ls ≡ true
shorter_yes n ls l v y =
    let longer = ls ++ l ∷ [] in
    ap (verdict_of n) (sym (lines_of_numbers ls))
    ∙ yes_before n (numbers_of ls) (numbers_of longer) (workable n (numbers_of ls) (shorter n ls l v)) (workable n (numbers_of longer) v)
    (λ s k. subst (λ (ms : List Line). Solves ms s) (sym (lines_of_numbers ls)) ((solves_append ls (l ∷ []) s).0 (subst (λ (ms : List Line). Solves ms s) (lines_of_numbers longer) k)).0)
    (ap (verdict_of n) (lines_of_numbers longer) ∙ y)

-- ---- the table of lines that have a solution
pub table_holds : (n : ℕ) (ls : List Line) → validity_of n (numbers_of ls) ≡ Ok tt → verdict_of n ls ≡ true → TableFor n (steps_of ls) (table_for n ls)
table_holds n ls v y =
    subst (λ (ms : List Line). TableFor n (steps_of ms) (table_for n ms)) (lines_of_numbers ls)
    (meaning.table_holds n (numbers_of ls) (workable n (numbers_of ls) v) (ap (verdict_of n) (lines_of_numbers ls) ∙ y))

-- as many as the lines and one more have
pub length_with : (s : List ℤ) (l : Line) → is_state_lem s ≡ true → length (numbers_with s l) ≡ line_size * count_in s + line_size
length_with s l e = length-append (numbers_in s) (line_numbers_lem l) ∙ omega (arith, length_numbers_in s (state_head s e), length_numbers l)

-- where all lines are valid there is room for the line
pub line_room : (s : List ℤ) (l : Line) → is_state_lem s ≡ true → validity_of (variables_in s) (numbers_with s l) ≡ Ok tt → count_in s < max_lines
line_room s l e v = let o = valid_list (variables_in s) (numbers_with s l) v in omega (arith, o.count, length_with s l e)

-- ---- what is read
module _ {n : ℕ} {ls : List Line} {r : Bool} {s : List ℤ} (k : Stands n ls r s) where
  abbrev beyond : List ℤ
  beyond = drop (session_room_lem n) s

  abbrev known : List ℤ
  known = known_for n (kept ls r)

  pub fronted : s ≡ front_of n ls r ++ (known_for n (kept ls r) ++ drop (session_room_lem n) s)
  fronted = k.is ∙ state_front n ls r beyond

  room : known_room n ≤ length (known ++ beyond)
  room = omega (arith, length-append known beyond, known_size n (kept ls r))

  pub is_state : is_state_lem s ≡ true
  is_state =
      ap is_state_lem fronted
      ∙ state_is n ls r (known ++ beyond) (variables_few n ls k.valid) (lines_few n ls k.valid) room (all_fit (numbers_of ls) (numbers_fit n (numbers_of ls) k.valid))

  pub variables : variables_in s ≡ n
  variables = ap variables_in fronted ∙ variables_is n ls r (known ++ beyond)

  pub count : count_in s ≡ length ls
  count = ap count_in fronted ∙ count_is n ls r (known ++ beyond)

  pub refused_in_law : refused_in s ≡ r
  refused_in_law = ap refused_in fronted ∙ refused_is n ls r (known ++ beyond)

  pub numbers : numbers_in s ≡ numbers_of ls
  numbers = ap numbers_in fronted ∙ numbers_is n ls r (known ++ beyond)

  pub known_read : known_in n s ≡ known_for n (kept ls r)
  known_read = ap (known_in n) fronted ∙ known_is n (front_of n ls r) known beyond (length_front n ls r (lines_few n ls k.valid)) (known_size n (kept ls r))

  pub table_read : table_in n s ≡ table_for n (kept ls r)
  table_read = table_in_known n s ∙ ap (table_of_known n) known_read ∙ table_known n (kept ls r)

  -- something else is known
  pub known_put : (u : List ℤ) → with_known (variables_in s) s u ≡ front_of n ls r ++ (u ++ drop (session_room_lem n) s)
  known_put u =
      ap (λ (m : ℕ). with_known m s u) variables
      ∙ ap (λ (x : List ℤ). with_known n x u) fronted
      ∙ with_is n (front_of n ls r) known beyond (length_front n ls r (lines_few n ls k.valid)) (known_size n (kept ls r)) u

  -- only 30 is refused beyond what deciding refuses
  pub state_validity : add_validity s ≡ refuse_if r AfterNo
  state_validity = rw (is_state, refused_in_law) refl

  module _ (l : Line) where
    pub all_numbers : numbers_with s l ≡ numbers_of (ls ++ l ∷ [])
    all_numbers = ap (λ (x : List ℤ). x ++ line_numbers_lem l) numbers ∙ sym (numbers_more ls l)

    -- the state with one line more, and what is known of its lines
    pub pushed_to : (q : Bool) (u : List ℤ) → length ls < max_lines → u ≡ known_for n (kept (ls ++ l ∷ []) q)
        → pushed (with_known (variables_in s) s u) l q ≡ state_of n (ls ++ l ∷ []) q ++ drop (session_room_lem n) s
    pushed_to q u h e =
        ap (λ (x : List ℤ). pushed x l q) (known_put u)
        ∙ pushed_is n ls r (u ++ beyond) l q h
        ∙ ap (λ (x : List ℤ). front_of n (ls ++ l ∷ []) q ++ (x ++ beyond)) e
        ∙ sym (state_front n (ls ++ l ∷ []) q beyond)

-- and with one less
pub popped_to : {n : ℕ} (ls : List Line) (l : Line) {r : Bool} {s : List ℤ} → Stands n (ls ++ l ∷ []) r s → (u : List ℤ) → u ≡ known_for n ls
    → popped (with_known (variables_in s) s u) ≡ state_of n ls false ++ drop (session_room_lem n) s
popped_to {n} ls l {r} {s} k u e =
    let beyond = drop (session_room_lem n) s in
    let few : length ls < max_lines = omega (arith, lines_few n (ls ++ l ∷ []) k.valid, length_more ls l) in
    ap popped (known_put k u)
    ∙ popped_is n ls l r (u ++ beyond) few
    ∙ ap (λ (x : List ℤ). front_of n ls false ++ (x ++ beyond)) e
    ∙ sym (state_front n ls false beyond)

-- ---- a line learnt at a state that stands: its table is that of the lines, and these have a solution
module _ {n : ℕ} {ls : List Line} {s : List ℤ} (k : Stands n ls false s) (l : Line) where
  abbrev K : List ℤ
  K = numbers_of ls

  abbrev more : List ℤ
  more = numbers_of (ls ++ l ∷ [])

  whole : length (numbers_of ls) % line_size ≡ 0
  whole = omega (arith, length_numbers_of ls)

  lines : lines_of (numbers_of ls) ≡ ls
  lines = lines_of_numbers ls

  table_of : TableFor n (steps_of (lines_of (numbers_of ls))) (table_for n ls)
  table_of = subst (λ (ms : List Line). TableFor n (steps_of ms) (table_for n ls)) (sym lines) (table_holds n ls k.valid k.solvable)

  yes_so_far : verdict_of n (lines_of (numbers_of ls)) ≡ true
  yes_so_far = ap (verdict_of n) lines ∙ k.solvable

  -- what learning is asked, in the words of the session
  asked : {A : Type 0} (f : ℕ → List ℤ → ℕ → List ℤ → A) → f (variables_in s) (numbers_with s l) (count_in s) (table_in (variables_in s) s) ≡ f n (numbers_of ls ++ line_numbers_lem l) (line_count (numbers_of ls)) (table_for n ls)
  asked f =
      ap (λ (m : ℕ). f m (numbers_with s l) (count_in s) (table_in m s)) (variables k)
      ∙ ap₂ (λ (L t : List ℤ). f n L (count_in s) t) (ap (λ (x : List ℤ). x ++ line_numbers_lem l) (numbers k)) (table_read k)
      ∙ ap (λ (j : ℕ). f n (numbers_of ls ++ line_numbers_lem l) j (table_for n ls)) (count k ∙ sym (count_of n ls k.valid))

  asked_known : learnt_known s l ≡ known_after n (numbers_of ls ++ line_numbers_lem l) (line_count (numbers_of ls)) (known_for n ls)
  asked_known =
      ap (λ (m : ℕ). known_after m (numbers_with s l) (count_in s) (known_in m s)) (variables k)
      ∙ ap₂ (λ (L q : List ℤ). known_after n L (count_in s) q) (ap (λ (x : List ℤ). x ++ line_numbers_lem l) (numbers k)) (known_read k)
      ∙ ap (λ (j : ℕ). known_after n (numbers_of ls ++ line_numbers_lem l) j (known_for n ls)) (count k ∙ sym (count_of n ls k.valid))

  module _ (v : validity_of n (numbers_of (ls ++ l ∷ [])) ≡ Ok tt) where
    lines_ready : LinesOk n (numbers_of ls ++ line_numbers_lem l)
    lines_ready = subst (LinesOk n) (numbers_more ls l) (workable n more v).lines

    -- it is learnt exactly if all lines so far have a solution,
    pub learns_verdict : learns_in s l ≡ verdict_of n (lines_of (numbers_of (ls ++ l ∷ [])))
    learns_verdict =
        asked learns
        ∙ learn_verdict n (numbers_of ls) l whole lines_ready yes_so_far (table_for n ls) table_of
        ∙ ap (λ (L : List ℤ). verdict_of n (lines_of L)) (sym (numbers_more ls l))

    -- and then what is known is known of them
    pub known_more : learns_in s l ≡ true → learnt_known s l ≡ known_for n (ls ++ l ∷ [])
    known_more e =
        asked_known
        ∙ ap (known_after n (numbers_of ls ++ line_numbers_lem l) (line_count (numbers_of ls))) (sym (ap (known_for n) lines))
        ∙ known_after_law n (numbers_of ls) l whole (workable n (numbers_of ls) k.valid) (modellable n (numbers_of ls) k.valid) works_more models_more yes_so_far
        (ap (learns n (numbers_of ls ++ line_numbers_lem l) (line_count (numbers_of ls))) (ap (table_for n) lines) ∙ sym (asked learns) ∙ e)
        ∙ ap (λ (L : List ℤ). known_for n (lines_of L)) (sym (numbers_more ls l))
        ∙ ap (known_for n) (lines_of_numbers (ls ++ l ∷ []))
      where
        works_more : Workable n (numbers_of ls ++ line_numbers_lem l)
        works_more = subst (Workable n) (numbers_more ls l) (workable n more v)

        models_more : Modellable n (numbers_of ls ++ line_numbers_lem l)
        models_more = subst (Modellable n) (numbers_more ls l) (modellable n more v)

    -- what is given of it is what deciding writes
    from_known : learns_in s l ≡ true → {b a : Lent} → FromKnown n (learnt_known s l) b a → Leaves n (numbers_of (ls ++ l ∷ [])) (Ok decide.Yes) b a
    from_known e {b} {a} o =
        let works = workable n more v in
        let modelled = modellable n more v in
        let yes : verdict_of n (lines_of more) ≡ true = sym learns_verdict ∙ e in
        let known : learnt_known s l ≡ known_for n (lines_of more) = known_more e ∙ ap (known_for n) (sym (lines_of_numbers (ls ++ l ∷ []))) in
        let outputs = subst (λ (q : List ℤ). Given n (table_of_known n q) (kept_of_known n q) b.model b.bounds b.groups a.model a.bounds a.groups) known o.outputs in
        record {
          model = known_model n more works yes modelled b.model b.bounds b.groups a.model a.bounds a.groups outputs;
          bounds = known_bounds n more works yes modelled b.model b.bounds b.groups a.model a.bounds a.groups outputs;
          groups = known_groups n more works yes modelled b.model b.bounds b.groups a.model a.bounds a.groups outputs;
          refutation = o.refutation;
          identifiers = o.identifiers;
          work = o.work;
        }

  -- else it is as it was
  pub known_kept : learns_in s l ≡ false → learnt_known s l ≡ known_for n ls
  known_kept e =
      asked_known
      ∙ after_no_line n (numbers_of ls ++ line_numbers_lem l) (line_count (numbers_of ls)) (known_for n ls)
      (ap (learns n (numbers_of ls ++ line_numbers_lem l) (line_count (numbers_of ls))) (table_known n ls) ∙ sym (asked learns) ∙ e)

-- ---- so an add is answered as deciding all lines so far is, after a no it is refused
answer_yes : (n : ℕ) (L : List ℤ) (b : Lent) → validity_for n L b ≡ Ok tt → verdict_of n (lines_of L) ≡ true → Ok decide.Yes ≡ answer_for n L b
unfolding decide_answer
answer_yes n L b e v = judged_yes n L (validity_for n L b) e v

pub add_answer_law : {n : ℕ} {ls : List Line} {r : Bool} {s : List ℤ} → Stands n ls r s → (l : Line) (b : Lent) → add_answer s l b ≡ unless_refused (refuse_if r AfterNo) (answer_for n (numbers_of (ls ++ l ∷ [])) b)
unfolding add_answer
add_answer_law {n} {ls} {r} {s} k l b =
    ap₂ (λ (u : Result Unit Refusal) (x : Result Answer Refusal). unless_refused u x) (state_validity k)
    (ap₂ (λ (m : ℕ) (L : List ℤ). unless_refused (validity_for m L b) (learnt_answer (learns_in s l) m L b)) (variables k) (all_numbers k l))
    ∙ by_state r k
  where
    L : List ℤ
    L = numbers_of (ls ++ l ∷ [])

    by_list : Stands n ls false s → (u : Result Unit Refusal) → validity_for n (numbers_of (ls ++ l ∷ [])) b ≡ u → unless_refused u (learnt_answer (learns_in s l) n (numbers_of (ls ++ l ∷ [])) b) ≡ answer_for n (numbers_of (ls ++ l ∷ [])) b
    by_list stood (Ok _) e = go (learns_in s l) refl
      where
        go : (c : Bool) → learns_in s l ≡ c → learnt_answer c n (numbers_of (ls ++ l ∷ [])) b ≡ answer_for n (numbers_of (ls ++ l ∷ [])) b
        go true q = answer_yes n (numbers_of (ls ++ l ∷ [])) b e (sym (learns_verdict stood l (decide_ok n (numbers_of (ls ++ l ∷ [])) b e).list) ∙ q)
        go false q = refl
    by_list stood (Err q) e = (refused n (numbers_of (ls ++ l ∷ [])) b q e).is

    by_state : (r : Bool) → Stands n ls r s
        → unless_refused (refuse_if r AfterNo) (unless_refused (validity_for n (numbers_of (ls ++ l ∷ [])) b) (learnt_answer (learns_in s l) n (numbers_of (ls ++ l ∷ [])) b)) ≡ unless_refused (refuse_if r AfterNo) (answer_for n (numbers_of (ls ++ l ∷ [])) b)
    by_state true stood = refl
    by_state false stood = by_list stood (validity_for n (numbers_of (ls ++ l ∷ [])) b) refl

-- all lines so far are decided, and u is known: of all of them on a yes, of the lines before on a no
pub record Learns (n : ℕ) (ls : List Line) (l : Line) (answer : Result Answer Refusal) (b a : Lent) (u : List ℤ) : Type 0 where
  pub decided : Decided n (numbers_of (ls ++ l ∷ [])) answer b a
  pub yes : answer ≡ Ok decide.Yes → u ≡ known_for n (ls ++ l ∷ [])
  pub no : answer ≡ Ok decide.No → u ≡ known_for n ls

module _ {n : ℕ} {ls : List Line} {s : List ℤ} (k : Stands n ls false s) (l : Line) {x : Result Answer Refusal} {b : Lent} {t : List ℤ} {a : Lent} (d : Adds s l x b t a) where
  answered : x ≡ answer_for n (numbers_of (ls ++ l ∷ [])) b
  answered = d.is ∙ add_answer_law k l b

  -- where it is not refused, the list is valid
  valid_then : (y : Result Answer Refusal) → x ≡ y → NotRefused y → validity_of n (numbers_of (ls ++ l ∷ [])) ≡ Ok tt
  valid_then y e h = (decide_ok n (numbers_of (ls ++ l ∷ [])) b (answered_valid n (numbers_of (ls ++ l ∷ [])) b (λ q z. h q (sym e ∙ answered ∙ z)))).list

  learns_yes : x ≡ Ok decide.Yes → learns_in s l ≡ true
  learns_yes e = learns_verdict k l (valid_then (Ok decide.Yes) e yes_answers) ∙ yes_verdict n (numbers_of (ls ++ l ∷ [])) b (sym answered ∙ e)

  learns_no : x ≡ Ok decide.No → learns_in s l ≡ false
  learns_no e = learns_verdict k l (valid_then (Ok decide.No) e no_answers) ∙ no_verdict n (numbers_of (ls ++ l ∷ [])) b (sym answered ∙ e)

  left_is : (y : Result Answer Refusal) → x ≡ y → AddLeft y s l b a → Leaves n (numbers_of (ls ++ l ∷ [])) y b a
  left_is (Ok decide.Yes) e o =
      from_known k l (valid_then (Ok decide.Yes) e yes_answers) (learns_yes e)
      (subst (λ (m : ℕ). FromKnown m (learnt_known s l) b a) (variables k) (subst (λ (c : Bool). LearntLeft c (variables_in s) (numbers_with s l) (learnt_known s l) (Ok decide.Yes) b a) (learns_yes e) o))
  left_is (Ok decide.No) e o =
      subst (λ (L : List ℤ). Leaves n L (Ok decide.No) b a) (all_numbers k l)
      (subst (λ (m : ℕ). Leaves m (numbers_with s l) (Ok decide.No) b a) (variables k) (subst (λ (c : Bool). LearntLeft c (variables_in s) (numbers_with s l) (learnt_known s l) (Ok decide.No) b a) (learns_no e) o))
  left_is (Err q) e o = o

  pub stand_learns : Learns n ls l x b a (learnt_known s l)
  stand_learns =
      record {
        decided = record { is = answered; leaves = left_is x refl d.left };
        yes = λ e. known_more k l (valid_then (Ok decide.Yes) e yes_answers) (learns_yes e);
        no = λ e. known_kept k l (learns_no e);
      }

-- ---- how a refused add keeps the promise
module _ (s : List ℤ) (l : Line) (b : Lent) where
  refused_by : (r : Refusal) → add_answer s l b ≡ Err r → Adds s l (Err r) b s b
  refused_by r e = record { is = sym e; state = refl; left = refl }

  pub no_state_law : is_state_lem s ≡ false → Adds s l (Err no_state) b s b
  unfolding add_answer
  no_state_law e = refused_by no_state (rw e)

  module _ (e : is_state_lem s ≡ true) where
    pub after_no : refused_in s ≡ true → Adds s l (Err AfterNo) b s b
    unfolding add_answer
    after_no q = refused_by AfterNo (rw (e, q))

    module _ (q : refused_in s ≡ false) where
      pub went_on : add_answer s l b ≡ unless_refused (validity_for (variables_in s) (numbers_with s l) b) (learnt_answer (learns_in s l) (variables_in s) (numbers_with s l) b)
      unfolding add_answer
      went_on = rw (e, q)

      -- by deciding
      pub decide_refuses : (r : Refusal) → validity_for (variables_in s) (numbers_with s l) b ≡ Err r → Adds s l (Err r) b s b
      decide_refuses r f = refused_by r (went_on ∙ ap (λ (u : Result Unit Refusal). unless_refused u (learnt_answer (learns_in s l) (variables_in s) (numbers_with s l) b)) f)
