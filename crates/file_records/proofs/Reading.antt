-- Reading records comes to the end of just those bytes that are laid out as a file.
use Rattle.file_records.specs.declared.FileRefusal.{FileRefusal}
use Rattle.std.specs.Prelude.{◌≡◌, Bool, true, false, List, ltb, Err, Ok, Result}
use Rattle.std.proofs.Math.Path.{refl, ap}
use Rattle.std.proofs.Common.{sym, subst, ◌∙◌, zero-add, below_more, ltb-false, le-ltb}
use Rattle.std.proofs.Math.Bool.{cond}
use Prim.Native.Nat.{ℕ, zero, suc, ◌+◌, ◌*◌, ◌<◌, ◌≤◌}
use native.Mathlib.Omega.{arith}
use Rattle.std.proofs.Math.ListN.{length}
use Rattle.integers.specs.Laws.{never}
use Rattle.lines.specs.Limits.{line_size}
use Rattle.little_endian.specs.Bytes.{le32}
use Rattle.file_records.specs.declared.FileRefusal.TheVariants.{Trailing}
use Rattle.file_records.specs.declared.Cursor.{Cursor}
use Rattle.file_records.specs.declared.Next.{Next}
use Rattle.file_records.specs.declared.Next.TheVariants.{More, End}
use Rattle.file_records.specs.declared.Kind.{Kind}
use Rattle.file_records.specs.declared.Kind.TheVariants as kinds
use Rattle.file_records.specs.Table.{header_size, record_place}
use Rattle.file_records.specs.Places.{LineKind, bare, identified, place_first}
use Rattle.file_records.specs.Scan.{no_identifier_lem, start, behind, line_taken, next_record_lem, onward, scan_from, whole_file_lem, scan}
use Rattle.file_records.specs.Record.{Whole, LineAt, Outcome, of_variables, of_line, of_end, refused}
use Rattle.file_records.specs.Laid.{Begun, Laid, behind_line, place_least, Reached, Ended, Left, start_reached, Scanned, Found}
use Rattle.file_records.specs.Laws.{Running}
use Rattle.file_records.proofs.Outcomes.{outcome, next_taken}

module _ (b : List ℕ) (room : ℕ) where
  after_variables : (c : Cursor) → Whole b c.at kinds.Variables → c.at ≡ 0 → c.lines ≡ 0 → line_size * c.lines ≤ room
      → Reached b room (record { at = behind c kinds.Variables; n = le32 b (c.at + header_size); begun = true; lines = c.lines })
  after_variables c w z k fits =
      let next : behind c kinds.Variables ≡ record_place b c.lines = omega (arith, ap (record_place b) k, place_first b) in
      let body : header_size ≡ c.at + header_size = omega arith in
      record {
        within = omega (arith, w.whole);
        placed = (next, record { first = subst (λ (i : ℕ). Whole b i kinds.Variables) z w; variables = ap (λ (i : ℕ). le32 b i) body; lines = λ j l. absurd (omega arith) });
        fits = fits;
      }

  after_line : (c : Cursor) (h : LineAt b c.at) → c.begun ≡ true → line_size * (c.lines + 1) ≤ room → Reached b room c → Left b room c (Ok (line_taken c h.kind))
  after_line c h t fits g =
      let p = rw t at g.placed in
      let l = subst (LineAt b) p.0 h in
      let next : behind c h.kind ≡ record_place b (c.lines + 1) = omega (arith, p.0, behind_line b c.lines l) in
      let lines = below_more (λ j. LineAt b (record_place b j)) c.lines p.1.lines l in (
        record { within = h.whole.whole; placed = rw t (next, record { first = p.1.first; variables = p.1.variables; lines = lines }); fits = fits },
        omega arith,
      )

  after_end : (c : Cursor) → Whole b c.at kinds.End → c.at ≡ record_place b c.lines → Begun b c.n c.lines → line_size * c.lines ≤ room
      → Ended b room (record { at = behind c kinds.End; n = c.n; begun = c.begun; lines = c.lines })
  after_end c w z g fits =
      record { within = omega (arith, w.whole); size = omega arith; begun = g; end = subst (λ (i : ℕ). Whole b i kinds.End) z w; fits = fits }

  left : (c : Cursor) (m : Result Next FileRefusal) → Outcome b room c m → Reached b room c → Left b room c m
  left c _ (of_variables w e) h = let p = rw e at h.placed in (after_variables c w p.0 p.1 h.fits, omega arith)
  left c _ (of_line l e r) h = after_line c l e r h
  left c _ (of_end w e) h = let p = rw e at h.placed in after_end c w p.0 p.1 h.fits
  left c _ (refused r) h = tt

  pub next_left : (c : Cursor) → Reached b room c → Left b room c (next_record_lem b room c)
  next_left c h = left c (next_record_lem b room c) (outcome b room c) h

  scanned_from : (k : ℕ) (c : Cursor) → Reached b room c → Scanned b room (scan_from k b room c)
  unfolding scan_from
  scanned_from zero c h = tt
  scanned_from (suc k) c h = go (next_record_lem b room c) (next_left c h) (scanned_from k)
    where
      go : (m : Result Next FileRefusal) → Left b room c m → ((d : Cursor) → Reached b room d → Scanned b room (scan_from k b room d)) → Scanned b room (onward (scan_from k b room) m)
      go (Ok (More d)) l f = f d l.0
      go (Ok (End d)) l f = l
      go (Err r) l f = tt

  pub scanned : Scanned b room (scan_from (suc (length b)) b room start)
  scanned = scanned_from (suc (length b)) start (start_reached b room)

pub scan_laid : (b : List ℕ) (room : ℕ) (c : Cursor) → scan b room ≡ Ok c → Found b room c
unfolding scan
scan_laid b room c = go (scan_from (suc (length b)) b room start) (scanned b room)
  where
    found : (d : Cursor) → Ended b room d → length b ≤ d.at → Found b room d
    found d h l = record { at = omega arith; laid = record { begun = h.begun; end = h.end; size = omega arith }; fits = h.fits }

    at_end : (d : Cursor) → Ended b room d → (t : Bool) → ltb d.at (length b) ≡ t → cond t (Err (Trailing d.at)) (Ok d) ≡ Ok c → Found b room c
    at_end d h true p e = never (cc)
    at_end d h false p e = let q : d ≡ c = cc in rw (← q) (found d h (ltb-false _ _ p))

    go : (m : Result Cursor FileRefusal) → Scanned b room m → whole_file_lem b m ≡ Ok c → Found b room c
    go (Ok d) s e = at_end d s (ltb d.at (length b)) refl e
    go (Err r) s e = never (cc)

-- ---- laid out
module _ (b : List ℕ) (room n k : ℕ) (h : Laid b n k) (r : line_size * k ≤ room) where
  -- the cursor at the record of line j, and behind the end
  abbrev cursor : ℕ → Cursor
  cursor j = record { at = record_place b j; n = n; begun = true; lines = j }

  abbrev ended : Cursor
  ended = record { at = length b; n = n; begun = true; lines = k }

  next_variables : next_record_lem b room start ≡ Ok (More (cursor 0))
  next_variables =
      let at : behind start kinds.Variables ≡ record_place b 0 = omega (arith, place_first b) in
      next_taken b room start kinds.Variables h.begun.first refl refl refl
      ∙ ap (λ (i : ℕ). Ok (More (record { at = i; n = le32 b header_size; begun = true; lines = 0 }))) at
      ∙ ap (λ (i : ℕ). Ok (More (record { at = record_place b 0; n = i; begun = true; lines = 0 }))) h.begun.variables

  next_line : (j : ℕ) → j < k → next_record_lem b room (cursor j) ≡ Ok (More (cursor (j + 1)))
  next_line j m =
      let l = h.begun.lines j m in
      let at : behind (cursor j) l.kind ≡ record_place b (j + 1) = omega (arith, behind_line b j l) in
      go l.is_line_law l.whole l.identified (le-ltb room (line_size * (j + 1)) (omega (arith, r))) ∙ ap (λ (i : ℕ). Ok (More (record { at = i; n = n; begun = true; lines = j + 1 }))) at
    where
      go : {kind : Kind} → LineKind kind → Whole b (record_place b j) kind → no_identifier_lem b (record_place b j) kind ≡ false → ltb room (line_size * (j + 1)) ≡ false
          → next_record_lem b room (cursor j) ≡ Ok (line_taken (cursor j) kind)
      go bare w i r = next_taken b room (cursor j) kinds.Line w refl i r
      go identified w i r = next_taken b room (cursor j) kinds.Identified w refl i r

  next_end : next_record_lem b room (cursor k) ≡ Ok (End ended)
  next_end =
      let at : behind (cursor k) kinds.End ≡ length b = omega (arith, h.size) in
      next_taken b room (cursor k) kinds.End h.end refl refl refl ∙ ap (λ (i : ℕ). Ok (End (record { at = i; n = n; begun = true; lines = k }))) at

  laid_lines : (f m j : ℕ) → j + m ≡ k → m < f → scan_from f b room (cursor j) ≡ Ok ended
  unfolding scan_from
  laid_lines zero m j e l = absurd (omega arith)
  laid_lines (suc f) zero j e l = let z : j ≡ k = omega arith in rw (z, next_end)
  laid_lines (suc f) (suc m) j e l = rw (next_line j (omega arith)) (laid_lines f m (j + 1) (omega arith) (omega arith))

  pub laid_scan : scan b room ≡ Ok ended
  unfolding scan scan_from
  laid_scan =
      rw next_variables
      (ap (whole_file_lem b) (laid_lines (length b) k 0 (zero-add k) (omega (arith, h.size, place_least b k h.begun.lines)))
      ∙ ap (λ (t : Bool). cond t (Err (Trailing (length b))) (Ok ended)) (le-ltb (length b) (length b) (omega arith)))

-- ---- one turn of the reader
module _ (b : List ℕ) (room : ℕ) where
  pub begins : Running b room start
  begins = record { reached = start_reached b room; turns = suc (length b); enough = omega arith; same = refl }

  -- one turn
  turn : (k : ℕ) (c : Cursor) (m : Result Next FileRefusal) → next_record_lem b room c ≡ m → onward (scan_from k b room) m ≡ scan_from (suc k) b room c
  unfolding scan_from
  turn k c m e = ap (onward (scan_from k b room)) (sym e)

  pub goes_on : (c d : Cursor) → Running b room c → next_record_lem b room c ≡ Ok (More d) → Running b room d × (c.at < d.at)
  goes_on c d h e = go h.turns h.enough h.same
    where
      l : Reached b room d × (c.at + header_size ≤ d.at)
      l = rw e at (next_left b room c h.reached)

      go : (k : ℕ) → length b < c.at + k → scan_from k b room c ≡ scan_from (suc (length b)) b room start → Running b room d × (c.at < d.at)
      go zero p q = absurd (omega (arith, h.reached.within))
      go (suc k) p q = (record { reached = l.0; turns = k; enough = omega (arith, l.1); same = turn k c (Ok (More d)) e ∙ q }, omega (arith, l.1))

  pub stops : (c : Cursor) → Running b room c → (m : Result Next FileRefusal) (a : Result Cursor FileRefusal) → next_record_lem b room c ≡ m → ((k : ℕ) → onward (scan_from k b room) m ≡ a) → whole_file_lem b a ≡ scan b room
  unfolding scan
  stops c h m a e f = go h.turns h.enough h.same
    where
      go : (k : ℕ) → length b < c.at + k → scan_from k b room c ≡ scan_from (suc (length b)) b room start → whole_file_lem b a ≡ whole_file_lem b (scan_from (suc (length b)) b room start)
      go zero p q = absurd (omega (arith, h.reached.within))
      go (suc k) p q = ap (whole_file_lem b) (sym (f k) ∙ turn k c m e ∙ q)
