-- From what deciding promised and the text that was written to what is reported.
use Rattle.std.specs.Prelude.{◌≡◌, Bool, List, ◌++◌, ℕ, ◌+◌, ◌*◌, ◌≤◌, ℤ, length, take, drop, Err, IsOk, Ok, Result}
use Rattle.std.proofs.Common.{sym, ap₂, subst, ◌∙◌, arith, length-append, take_at, drop_at}
use Rattle.std.proofs.Math.Path.{ap, refl}
use Rattle.std.proofs.Math.Bool.{true, false, cond}
use Rattle.integers.specs.Laws.{never}
use Rattle.lines.specs.declared.Refusal.{Refusal}
use Rattle.lines.specs.Limits.{line_size}
use Rattle.lines.specs.Line.{lines_of}
use Rattle.lines.specs.Refusal.{validity_of}
use Rattle.check_refutation.specs.Progress.{head_size}
use Rattle.check_soundness.specs.Head.{steps_in, stated}
use Rattle.theory_bounds.specs.Verdict.{verdict_of}
use Rattle.theory_bounds.specs.Answers.{model_of, bounds_of, groups_of}
use Rattle.decide_buffers.specs.Room.{Lent, lengths_of, model_room_lem, bounds_room_lem, groups_room_lem, refutation_room_lem, lent_rooms, HaveRoom}
use Rattle.decide.specs.declared.Answer.{Answer}
use Rattle.decide.specs.declared.Answer.TheVariants as answer
use Rattle.decide.specs.Decided.{unless_refused, decide_answer, answer_for, OnYes, OnNo, validity_for, ok_decide}
use Rattle.decide.specs.Decided as decide
use Rattle.check_soundness.specs.Refutes.{stated_length_law}
use Rattle.decide.specs.Parts.{yes_verdict, no_verdict, model_in, bounds_in_law, groups_in_law, refutation_in_law}
use Rattle.file_records.specs.declared.FileRefusal.{FileRefusal}
use Rattle.file_records.specs.Refusal.{file_number, file_place}
use Rattle.file_list.specs.declared.Listed.{Listed}
use Rattle.file_list.specs.File.{file_list_lem}
use Rattle.file_list.specs.Read.{read_answer, Leaves, ReadDone}
use Rattle.file_list.specs.Layout.{length_file_list}
use Rattle.file_list.specs.Back.{IsRead, is_read}
use Rattle.file_text.specs.Text.{yes_text, no_text, refused_text}
use Rattle.file_text.specs.Put.{Wrote}
use Rattle.file_report.specs.Report.{most_variables, most_lines, Behind, Decided, yes, no, Reported, refused, decided}
use Rattle.file_report.specs.Ready.{text_size, RefutationReady, ListReady}

-- ---- the text is the front, and what is behind it stays
text_of : {T d e : List ℕ} {r : ℕ} → Wrote T d e r → take r e ≡ T
text_of {T} {d} {e} {r} w = ap (take r) w.whole ∙ take_at T _ r (sym w.count)

behind : {T d e : List ℕ} {r : ℕ} → Wrote T d e r → Behind d e r
behind {T} {d} {e} {r} w = record { kept = ap (drop r) w.whole ∙ drop_at T _ r (sym w.count); inside = w.inside }

-- ---- a valid call is not refused
module _ (n : ℕ) (L : List ℤ) (b : Lent) where
  refused_validity : (r : Refusal) → Err r ≡ answer_for n L b → validity_for n L b ≡ Ok tt → ⊥
  unfolding decide_answer
  refused_validity r e v = go (verdict_of n (lines_of L)) (e ∙ ap (λ (x : Result Unit Refusal). unless_refused x (cond (verdict_of n (lines_of L)) (Ok answer.Yes) (Ok answer.No))) v)
    where
      go : (t : Bool) → ◌≡◌ {A = Result Answer Refusal} (Err r) (cond t (Ok answer.Yes) (Ok answer.No)) → ⊥
      go true e = never (cc)
      go false e = never (cc)

-- ---- what is reported
module _ {n : ℕ} {L : List ℤ} {found : Result Answer Refusal} {b a : Lent} (k : decide.Decided n L found b a) where
  pub yes_written : found ≡ Ok answer.Yes → {i j l : ℕ} → i ≡ model_room_lem n → j ≡ bounds_room_lem n → l ≡ groups_room_lem n → {d e : List ℕ} {r : ℕ}
      → Wrote (yes_text n (take i a.model) (take j a.bounds) (take l a.groups)) d e r → Decided n L (take r e) × Behind d e r
  yes_written f x y z {d} {e} {r} w =
      let o : OnYes n L b a = subst (λ (q : Result Answer Refusal). decide.Leaves n L q b a) f k.leaves in
      let v = yes_verdict n L b (sym k.is ∙ f) in
      let t : take r e ≡ yes_text n (model_of n (lines_of L)) (bounds_of n (lines_of L)) (groups_of n (lines_of L)) = text_of w ∙ rw (x, y, z, model_in o, bounds_in_law o, groups_in_law o) in
      (subst (Decided n L) (sym t) (yes v), behind w)

  module _ (f : found ≡ Ok answer.No) where
    on_no : OnNo n L b a
    on_no = subst (λ (q : Result Answer Refusal). decide.Leaves n L q b a) f k.leaves

    pub no_written : {d e : List ℕ} {r : ℕ} → Wrote (no_text (stated a.refutation)) d e r → Decided n L (take r e) × Behind d e r
    no_written {d} {e} {r} w =
        let t : take r e ≡ no_text on_no.numbers = text_of w ∙ ap no_text (refutation_in_law on_no) in
        (subst (Decided n L) (sym t) (no (no_verdict n L b (sym k.is ∙ f)) on_no.numbers on_no.due), behind w)

    pub no_ready : length a.refutation ≤ refutation_room_lem most_variables → (text : List ℕ) → text_size ≤ length text → RefutationReady a.refutation text
    no_ready h text s =
        let rest = drop (length on_no.numbers) b.refutation in
        let size = stated_length_law L on_no.numbers on_no.due.refutes rest in
        let room : head_size + steps_in a.refutation ≤ length a.refutation = rw on_no.refutation (omega (arith, size, length-append on_no.numbers rest)) in
        record { room = room; few = h; size = s }

  -- the buffers are long enough
  pub never_refused : (r : Refusal) → found ≡ Err r → validity_of n L ≡ Ok tt → HaveRoom lent_rooms n (lengths_of b) → ⊥
  never_refused r f v h = refused_validity n L b r (sym f ∙ k.is) (ok_decide n L b (record { list = v; rooms = h }))

  pub is_answered : validity_of n L ≡ Ok tt → HaveRoom lent_rooms n (lengths_of b) → IsOk found
  is_answered v h = go found refl
    where
      go : (x : Result Answer Refusal) → found ≡ x → IsOk x
      go (Ok a) e = refl
      go (Err r) e = absurd (never_refused r e v h)

-- ---- what was read
module _ {bytes : List ℕ} {found : Result Listed FileRefusal} {b a : List ℤ} (k : ReadDone most_variables bytes found b a) (size : length b ≡ line_size * most_lines) where
  pub answered : found ≡ read_answer most_variables bytes (line_size * most_lines)
  answered = k.is ∙ ap (read_answer most_variables bytes) size

  module _ (z : Listed) (f : found ≡ Ok z) where
    pub is_listed : IsRead most_variables bytes (line_size * most_lines) z
    is_listed = is_read most_variables bytes (line_size * most_lines) z (sym answered ∙ f)

    pub list_is : take (line_size * z.lines) a ≡ file_list_lem bytes z.lines
    list_is =
        let l : a ≡ file_list_lem bytes z.lines ++ drop (line_size * z.lines) b = subst (λ (q : Result Listed FileRefusal). Leaves bytes q b a) f k.leaves in
        ap (take (line_size * z.lines)) l ∙ take_at (file_list_lem bytes z.lines) _ (line_size * z.lines) (length_file_list bytes z.lines)

    pub list_ready : (text : List ℕ) → text_size ≤ length text → ListReady z.n (take (line_size * z.lines) a) text
    list_ready text s = record { valid = ap (validity_of z.n) list_is ∙ is_listed.valid; few = is_listed.few; size = s }

    pub read_reported : {T : List ℕ} {C : Type 0} → Decided z.n (take (line_size * z.lines) a) T × C → Reported bytes T × C
    read_reported {T} {C} w = (decided z (sym answered ∙ f) (subst (λ (L : List ℤ). Decided z.n L T) list_is w.0), w.1)

  pub refused_reported : (r : FileRefusal) → found ≡ Err r → {m p : ℕ} → m ≡ file_number r → p ≡ file_place r → {d e : List ℕ} {l : ℕ} → Wrote (refused_text m p) d e l → Reported bytes (take l e) × Behind d e l
  refused_reported r f x y {d} {e} {l} w =
      let t : take l e ≡ refused_text (file_number r) (file_place r) = text_of w ∙ ap₂ refused_text x y in
      (subst (Reported bytes) (sym t) (refused r (sym answered ∙ f)), behind w)
