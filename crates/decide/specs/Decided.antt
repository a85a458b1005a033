-- What deciding answers and leaves in the lent buffers, for every input: the specification's promise.
use Rattle.std.specs.Prelude.{◌≡◌, Bool, not, List, ◌++◌, ℕ, ◌+◌, ◌*◌, ◌-◌, ◌^◌, ◌<◌, ◌≤◌, ℤ, pos, length, drop, replicate, Err, Ok, Result}
use Rattle.std.proofs.Math.Path.{refl, ap}
use Rattle.std.proofs.Common.{sym, subst, ◌∙◌, arith, drop-drop}
use Rattle.std.proofs.Math.Bool.{true, false, cond}
use Rattle.lines.specs.declared.Refusal.{Refusal}
use Rattle.integers.specs.Laws.{never}
use Rattle.integers.specs.Sequence.{tabulate}
use Rattle.lines.specs.Line.{lines_of}
use Rattle.lines.specs.Limits.{max_variables}
use Rattle.decide_rows.specs.Table.{table_start}
use Rattle.lines.specs.Refusal.{validity_of}
use Rattle.lines.specs.Valid.{LinesOk, Workable, or_valid, workable, modellable}
use Rattle.theory_bounds.specs.Table.{table_model}
use Rattle.decide_stored_table.specs.Table.{table_of}
use Rattle.decide_yes.specs.Table.{table_for, short_table, model_agrees, bounds_agree, groups_agree, table_closed, model_ready}
use Rattle.decide_yes.specs.Ready.{AnswersReady}
use Rattle.theory_bounds.specs.Verdict.{verdict_of}
use Rattle.theory_bounds.specs.Answers.{model_of, bounds_of, groups_of, bound_at, group_at_lem}
use Rattle.theory_answers.specs.Refuted.{Due}
use Rattle.check_soundness.specs.Head.{steps_in}
use Rattle.check_soundness.specs.Refutes.{stated_length_law}
use Rattle.decide_identifiers.specs.Identifiers.{identifiers_of, StepsNamed, steps_named, identifiers_front, counts_front}
use Rattle.decide_buffers.specs.declared.Lengths.{Lengths}
use Rattle.decide_buffers.specs.Room.{Lent, lengths_of, model_room_lem, bounds_room_lem, groups_room_lem, identifiers_room_lem, work_room_lem, lent_rooms, HaveRoom, rooms_validity, decide_validity_lem, valid_room, room_valid, model_room, bounds_room, groups_room, refutation_room, identifiers_room, work_room, work_small}
use Rattle.hub_weights.specs.Weights.{weights_end}
use Rattle.hub_answers.specs.Answered.{HubAsked, HubAnswered}
use Rattle.decide.specs.declared.Answer.{Answer}
use Rattle.decide.specs.declared.Answer.TheVariants.{Yes, No}
use Rattle.decide.specs.Searched.{used_room, SearchReady, Searched, table_in}

-- ---- the answer
-- a refusal goes first
abbrev pub unless_refused : Result Unit Refusal → Result Answer Refusal → Result Answer Refusal
unless_refused (Ok _) a = a
unless_refused (Err r) a = Err r

abbrev pub NotRefused : Result Answer Refusal → Type 0
NotRefused a = (r : Refusal) → a ≡ Err r → ⊥

-- by what is refused, whichever engine refuses it, and by the verdict
abbrev pub judged : Result Unit Refusal → ℕ → List ℤ → Result Answer Refusal
judged v n L = unless_refused v (cond (verdict_of n (lines_of L)) (Ok Yes) (Ok No))

module _ (n : ℕ) (L : List ℤ) (v : Result Unit Refusal) where
  pub judged_refused : (r : Refusal) → v ≡ Err r → Err r ≡ judged v n L
  judged_refused r e = sym (ap (λ (u : Result Unit Refusal). judged u n L) e)

  pub judged_yes : v ≡ Ok tt → verdict_of n (lines_of L) ≡ true → Ok Yes ≡ judged v n L
  judged_yes e t = sym (rw (e, t))

  pub judged_no : v ≡ Ok tt → verdict_of n (lines_of L) ≡ false → Ok No ≡ judged v n L
  judged_no e t = sym (rw (e, t))

-- buffers are given by their lengths
unfoldable pub decide_answer : ℕ → List ℤ → Lengths → Result Answer Refusal
decide_answer n L s = judged (decide_validity_lem n L s) n L

-- ---- what the lent buffers hold, whichever engine decides: by the room of its work area
-- the work area with zeros in its named part
abbrev pub cleared_to : ℕ → List ℤ → List ℤ
cleared_to room w = replicate room (pos 0) ++ drop room w

pub record YesLeft (room n : ℕ) (L : List ℤ) (b a : Lent) : Type 0 where
  pub model : a.model ≡ model_of n (lines_of L) ++ drop (model_room_lem n) b.model
  pub bounds : a.bounds ≡ bounds_of n (lines_of L) ++ drop (bounds_room_lem n) b.bounds
  pub groups : a.groups ≡ groups_of n (lines_of L) ++ drop (groups_room_lem n) b.groups
  pub refutation : a.refutation ≡ b.refutation
  pub identifiers : a.identifiers ≡ b.identifiers
  pub work : a.work ≡ cleared_to room b.work

-- of a refutation of kind 1 or 2 only the walks are free
pub record NoLeft (room n : ℕ) (L : List ℤ) (b a : Lent) : Type 0 where
  pub numbers : List ℕ
  pub due : Due n L numbers
  pub refutation : a.refutation ≡ numbers ++ drop (length numbers) b.refutation
  pub identifiers : a.identifiers ≡ identifiers_of L numbers ++ drop (steps_in numbers) b.identifiers
  pub model : a.model ≡ b.model
  pub bounds : a.bounds ≡ b.bounds
  pub groups : a.groups ≡ b.groups
  pub work : a.work ≡ cleared_to room b.work

-- b is what the buffers held before, a what they hold after
abbrev pub LeavesIn : ℕ → ℕ → List ℤ → Result Answer Refusal → Lent → Lent → Type 0
LeavesIn room n L (Ok Yes) b a = YesLeft room n L b a
LeavesIn room n L (Ok No) b a = NoLeft room n L b a
LeavesIn room n L (Err r) b a = a ≡ b

-- the first engine's
abbrev pub cleared : ℕ → List ℤ → List ℤ
cleared n w = cleared_to (work_room_lem n) w

abbrev pub OnYes : ℕ → List ℤ → Lent → Lent → Type 0
OnYes n L b a = YesLeft (work_room_lem n) n L b a

abbrev pub OnNo : ℕ → List ℤ → Lent → Lent → Type 0
OnNo n L b a = NoLeft (work_room_lem n) n L b a

abbrev pub Leaves : ℕ → List ℤ → Result Answer Refusal → Lent → Lent → Type 0
Leaves n L x b a = LeavesIn (work_room_lem n) n L x b a

-- the answer, by what is lent
abbrev pub answer_for : ℕ → List ℤ → Lent → Result Answer Refusal
answer_for n L b = decide_answer n L (lengths_of b)

pub record Decided (n : ℕ) (L : List ℤ) (answer : Result Answer Refusal) (b a : Lent) : Type 0 where
  pub is : answer ≡ answer_for n L b
  pub leaves : Leaves n L answer b a

-- ---- a refutation that was found
-- R holds a refutation of the due kind in front of what it held before
abbrev pub Shows : ℕ → List ℤ → List ℕ → List ℕ → Type 0
Shows n L R R₁ = (N : List ℕ) × Due n L N × (R₁ ≡ N ++ drop (length N) R)

module _ (n : ℕ) (L : List ℤ) (lines : LinesOk n L) (R R₁ : List ℕ) (r : Shows n L R R₁) where
  abbrev rest : List ℕ
  rest = drop (length r.0) R

  -- each step of it names a line, and there is room for the identifiers
  pub shown_named : (I : List ℕ) → identifiers_room_lem n ≤ length I → StepsNamed L R₁ × (steps_in R₁ ≤ length I)
  shown_named I room =
      let u = r.1.refutes in
      (rw r.2 (steps_named n L r.0 rest u lines), rw r.2 (omega (arith, stated_length_law L r.0 u rest, r.1.size, room)))

  -- the identifiers that are written are those of the refutation
  shown_identifiers : (I : List ℕ) → identifiers_of L R₁ ++ drop (steps_in R₁) I ≡ identifiers_of L r.0 ++ drop (steps_in r.0) I
  shown_identifiers I =
      let u = r.1.refutes in
      rw (r.2, identifiers_front n L r.0 rest u, counts_front n L r.0 rest u)

  pub no_left : (room : ℕ) (b : Lent) → b.refutation ≡ R → (I : List ℕ) → I ≡ identifiers_of L R₁ ++ drop (steps_in R₁) b.identifiers → (w : List ℤ) → w ≡ cleared_to room b.work
      → NoLeft room n L b (record { model = b.model; bounds = b.bounds; groups = b.groups; refutation = R₁; identifiers = I; work = w })
  no_left room b e I i w z =
      record { numbers = r.0; due = r.1; refutation = r.2 ∙ ap (λ (x : List ℕ). r.0 ++ drop (length r.0) x) (sym e); identifiers = i ∙ shown_identifiers b.identifiers; model = refl; bounds = refl; groups = refl; work = z }

-- what was kept behind a used room is kept behind a wider one, and the rest is cleared
pub cleared_behind : (used room : ℕ) → used ≤ room → (w w₁ w₂ : List ℤ) → drop used w₁ ≡ drop used w → w₂ ≡ cleared_to room w₁ → w₂ ≡ cleared_to room w
cleared_behind used room h w w₁ w₂ k z = z ∙ ap (λ (x : List ℤ). replicate room (pos 0) ++ x) behind_room
  where
    behind_room : drop room w₁ ≡ drop room w
    behind_room =
        let i : room ≡ used + (room - used) = omega arith in
        ap (λ (j : ℕ). drop j w₁) i ∙ sym (drop-drop (room - used) used w₁) ∙ ap (drop (room - used)) k
        ∙ drop-drop (room - used) used w ∙ ap (λ (j : ℕ). drop j w) (sym i)

-- ---- the room is enough
pub used_room_law : (n : ℕ) → used_room n ≤ work_room_lem n
used_room_law n = omega arith

-- what was kept behind the used room is kept behind the named part, and the rest is cleared
pub cleared_is : (n : ℕ) (w w₁ w₂ : List ℤ) → drop (used_room n) w₁ ≡ drop (used_room n) w → w₂ ≡ cleared n w₁ → w₂ ≡ cleared n w
cleared_is n w w₁ w₂ k z = cleared_behind (used_room n) (work_room_lem n) (used_room_law n) w w₁ w₂ k z

-- ---- nothing is refused
pub record DecideOk (n : ℕ) (L : List ℤ) (b : Lent) : Type 0 where
  pub list : validity_of n L ≡ Ok tt
  pub rooms : HaveRoom lent_rooms n (lengths_of b)

abbrev pub validity_for : ℕ → List ℤ → Lent → Result Unit Refusal
validity_for n L b = decide_validity_lem n L (lengths_of b)

pub decide_ok : (n : ℕ) (L : List ℤ) (b : Lent) → validity_for n L b ≡ Ok tt → DecideOk n L b
unfolding decide_validity_lem
decide_ok n L b e = let p = or_valid (validity_of n L) (rooms_validity n (lengths_of b)) e in record { list = p.0; rooms = valid_room n (lengths_of b) p.1 }

pub ok_decide : (n : ℕ) (L : List ℤ) (b : Lent) → DecideOk n L b → validity_for n L b ≡ Ok tt
unfolding decide_validity_lem
ok_decide n L b o = rw o.list (room_valid n (lengths_of b) o.rooms)

module _ (n : ℕ) (L : List ℤ) (b : Lent) where
  pub refused : (r : Refusal) → validity_for n L b ≡ Err r → Decided n L (Err r) b b
  unfolding decide_answer
  refused r e = record { is = judged_refused n L (validity_for n L b) r e; leaves = refl }

  module _ (e : validity_for n L b ≡ Ok tt) where
    answer_yes : verdict_of n (lines_of L) ≡ true → Ok Yes ≡ answer_for n L b
    unfolding decide_answer
    answer_yes v = judged_yes n L (validity_for n L b) e v

    answer_no : verdict_of n (lines_of L) ≡ false → Ok No ≡ answer_for n L b
    unfolding decide_answer
    answer_no v = judged_no n L (validity_for n L b) e v

    pub search_ready : SearchReady n L b.refutation b.work
    search_ready = let o = decide_ok n L b e in record { valid = workable n L o.list; room = refutation_room work_room_lem o.rooms; work_room = omega (arith, used_room_law n, work_room work_room_lem o.rooms) }

    pub room_left : {R₁ : List ℕ} {w₁ : List ℤ} {r : Bool} → Searched n L b.refutation b.work R₁ w₁ r → work_room_lem n ≤ length w₁
    room_left k = omega (arith, k.same_length, work_room work_room_lem (decide_ok n L b e).rooms)

    ok : Workable n L
    ok = workable n L (decide_ok n L b e).list

    pub few : n ≤ max_variables
    few = ok.variables

    -- where the table ends is in the work area, and no index comes near 64 bits
    pub table_fits : {R₁ : List ℕ} {w₁ : List ℤ} {r : Bool} → Searched n L b.refutation b.work R₁ w₁ r → table_start (2 * n) + 2 * n * (2 * n) ≤ length w₁
    table_fits k = omega (arith, room_left k, used_room_law n)

    pub start_small : table_start (2 * n) * 8 < 2 ^ 32
    start_small = omega (arith, used_room_law n, work_small n few)

    module _ (R₁ : List ℕ) (w₁ : List ℤ) where
      pub identifiers_ready : {t : Bool} → Searched n L b.refutation b.work R₁ w₁ t → t ≡ true → StepsNamed L R₁ × (steps_in R₁ ≤ length b.identifiers)
      identifiers_ready k z = shown_named n L ok.lines b.refutation R₁ (k.on_no z) b.identifiers (identifiers_room work_room_lem (decide_ok n L b e).rooms)

      pub decided_no : {t : Bool} → Searched n L b.refutation b.work R₁ w₁ t → t ≡ true → (I : List ℕ) → I ≡ identifiers_of L R₁ ++ drop (steps_in R₁) b.identifiers → (w₂ : List ℤ) → w₂ ≡ cleared n w₁
          → Decided n L (Ok No) b (record { model = b.model; bounds = b.bounds; groups = b.groups; refutation = R₁; identifiers = I; work = w₂ })
      decided_no k y I i w₂ z = record { is = answer_no (k.verdict ∙ ap not y); leaves = no_left n L ok.lines b.refutation R₁ (k.on_no y) (work_room_lem n) b refl I i w₂ (cleared_is n b.work w₁ w₂ k.behind z) }

      module _ (k : Searched n L b.refutation b.work R₁ w₁ false) where
        table_is : table_in n w₁ ≡ table_for n L
        table_is = (k.on_yes refl).1

        pub answers_ready : AnswersReady n (table_in n w₁) b.model b.bounds b.groups
        answers_ready =
            let o = decide_ok n L b e in
            subst (λ (t : List ℤ). AnswersReady n t b.model b.bounds b.groups) (sym table_is)
            (record { table = short_table n L ok.variables ok.lines; closed = table_closed n L ok k.verdict; small = model_ready n L ok k.verdict (modellable n L o.list); model_room = model_room work_room_lem o.rooms; bounds_room = bounds_room work_room_lem o.rooms; groups_room = groups_room work_room_lem o.rooms })

        pub decided_yes : (m bs : List ℤ) (g : List ℕ)
            → (m ≡ tabulate n (table_model n (table_of (2 * n) (table_in n w₁))) ++ drop (model_room_lem n) b.model)
            × (bs ≡ tabulate (bounds_room_lem n) (bound_at (table_of (2 * n) (table_in n w₁))) ++ drop (bounds_room_lem n) b.bounds)
            × (g ≡ tabulate (2 * n) (group_at_lem (table_of (2 * n) (table_in n w₁))) ++ drop (groups_room_lem n) b.groups)
            → (w₂ : List ℤ) → w₂ ≡ replicate (work_room_lem n) (pos 0) ++ drop (work_room_lem n) w₁
            → Decided n L (Ok Yes) b (record { model = m; bounds = bs; groups = g; refutation = R₁; identifiers = b.identifiers; work = w₂ })
        decided_yes m bs g h w₂ z =
            record {
              is = answer_yes k.verdict;
              leaves =
                  record {
                    model = h.0 ∙ ap (λ (x : List ℤ). x ++ drop (model_room_lem n) b.model) (ap (λ (q : List ℤ). tabulate n (table_model n (table_of (2 * n) q))) table_is ∙ model_agrees n L ok.variables ok.lines);
                    bounds = h.1 ∙ ap (λ (x : List ℤ). x ++ drop (bounds_room_lem n) b.bounds) (ap (λ (q : List ℤ). tabulate (bounds_room_lem n) (bound_at (table_of (2 * n) q))) table_is ∙ bounds_agree n L ok.variables ok.lines);
                    groups = h.2 ∙ ap (λ (x : List ℕ). x ++ drop (groups_room_lem n) b.groups) (ap (λ (q : List ℤ). tabulate (2 * n) (group_at_lem (table_of (2 * n) q))) table_is ∙ groups_agree n L ok.variables ok.lines);
                    refutation = (k.on_yes refl).0;
                    identifiers = refl;
                    work = cleared_is n b.work w₁ w₂ k.behind z;
                  };
            }

    -- ---- without a table, where the list has one hub
    module _ (m bs : List ℤ) (g : List ℕ) (w₁ : List ℤ) (r : Bool) (k : HubAnswered n L b.model b.bounds b.groups b.work m bs g w₁ r) where
      abbrev b₁ : Lent
      b₁ = record { model = m; bounds = bs; groups = g; refutation = b.refutation; identifiers = b.identifiers; work = w₁ }

      pub hub_room : work_room_lem n ≤ length w₁
      hub_room = omega (arith, k.scratch.same_length, work_room work_room_lem (decide_ok n L b e).rooms)

      hub_cleared : (w₂ : List ℤ) → w₂ ≡ cleared n w₁ → w₂ ≡ cleared n b.work
      hub_cleared w₂ z = cleared_behind (weights_end n) (work_room_lem n) (omega arith) b.work w₁ w₂ k.scratch.behind z

      pub decided_hub : r ≡ true → (w₂ : List ℤ) → w₂ ≡ cleared n w₁
          → Decided n L (Ok Yes) b (record { model = m; bounds = bs; groups = g; refutation = b.refutation; identifiers = b.identifiers; work = w₂ })
      decided_hub t w₂ z =
          let y = k.on_yes t in
          record {
            is = answer_yes y.verdict;
            leaves = record { model = y.model; bounds = y.bounds; groups = y.groups; refutation = refl; identifiers = refl; work = hub_cleared w₂ z };
          }

      -- not so: the work area alone has changed, and what is decided from there is decided
      module _ (f : r ≡ false) where
        same_lengths : lengths_of b₁ ≡ lengths_of b
        same_lengths i =
            record {
              model = ap length (k.on_no f).0 i;
              bounds = ap length (k.on_no f).1 i;
              groups = ap length (k.on_no f).2 i;
              refutation = length b.refutation;
              identifiers = length b.identifiers;
              work = k.scratch.same_length i;
            }

        pub valid_after : validity_for n L b₁ ≡ Ok tt
        valid_after = ap (decide_validity_lem n L) same_lengths ∙ e

        not_refused : (r : Refusal) → Err r ≡ answer_for n L b₁ → ⊥
        unfolding decide_answer
        not_refused r q = go (verdict_of n (lines_of L)) (q ∙ ap (λ (v : Result Unit Refusal). judged v n L) valid_after)
          where
            go : (t : Bool) → Err r ≡ cond t (Ok Yes) (Ok No) → ⊥
            go true q = never (cc)
            go false q = never (cc)

        pub decided_after : (x : Result Answer Refusal) (a : Lent) → Decided n L x b₁ a → Decided n L x b a
        decided_after x a d = record { is = d.is ∙ ap (decide_answer n L) same_lengths; leaves = go x d.is d.leaves }
          where
            go : (x : Result Answer Refusal) → x ≡ answer_for n L b₁ → Leaves n L x b₁ a → Leaves n L x b a
            go (Ok Yes) q y =
                record {
                  model = y.model ∙ ap (λ (z : List ℤ). model_of n (lines_of L) ++ drop (model_room_lem n) z) (k.on_no f).0;
                  bounds = y.bounds ∙ ap (λ (z : List ℤ). bounds_of n (lines_of L) ++ drop (bounds_room_lem n) z) (k.on_no f).1;
                  groups = y.groups ∙ ap (λ (z : List ℕ). groups_of n (lines_of L) ++ drop (groups_room_lem n) z) (k.on_no f).2;
                  refutation = y.refutation;
                  identifiers = y.identifiers;
                  work = hub_cleared a.work y.work;
                }
            go (Ok No) q y =
                record {
                  numbers = y.numbers;
                  due = y.due;
                  refutation = y.refutation;
                  identifiers = y.identifiers;
                  model = y.model ∙ (k.on_no f).0;
                  bounds = y.bounds ∙ (k.on_no f).1;
                  groups = y.groups ∙ (k.on_no f).2;
                  work = hub_cleared a.work y.work;
                }
            go (Err r) q y = absurd (not_refused r q)

    pub hub_asked : HubAsked n L b.model b.bounds b.groups b.work
    hub_asked =
        let o = decide_ok n L b e in
        record {
          valid = modellable n L o.list;
          model_room = model_room work_room_lem o.rooms;
          bounds_room = bounds_room work_room_lem o.rooms;
          groups_room = groups_room work_room_lem o.rooms;
          work_room = omega (arith, work_room work_room_lem o.rooms);
        }
