-- What one record leaves is one of the outcomes, and a record that passes all tests is taken.
use Rattle.std.specs.Prelude.{◌≡◌, Bool, true, false, not, cond, List, ℕ, ◌+◌, eqb, ltb, length, None, Ok, Option, Result, Some}
use Rattle.std.proofs.Math.Path.{refl}
use Rattle.std.proofs.Common.{arith}
use borrow.Author.Tests.{ltb-false, eqb-true, not-false, le-ltb, eq-eqb}
use Rattle.file_records.specs.declared.FileRefusal.{FileRefusal}
use Rattle.file_records.specs.declared.Cursor.{Cursor}
use Rattle.file_records.specs.declared.Next.{Next}
use Rattle.file_records.specs.declared.Kind.{Kind}
use Rattle.file_records.specs.declared.Kind.TheVariants.{Variables, Line, End, Identified}
use Rattle.file_records.specs.Table.{header_size, body_size_lem, le16, kind_at_lem}
use Rattle.file_records.specs.Places.{LineKind, bare, identified}
use Rattle.file_records.specs.Scan.{out_of_place_lem, no_identifier_lem, no_room_lem, behind, taken, placed, next_record_lem}
use Rattle.file_records.specs.Record.{Whole, Outcome, of_variables, of_line, of_end, refused}

by_test : {A : Type 0} (P : A → Type 0) (t : Bool) {x y : A} → (t ≡ true → P x) → (t ≡ false → P y) → P (cond t x y)
by_test P true f g = f refl
by_test P false f g = g refl

module _ (b : List ℕ) (room : ℕ) (c : Cursor) where
  -- all tests are passed
  line_taken : {kind : Kind} → LineKind kind → Whole b c.at kind → out_of_place_lem c kind ≡ false → no_identifier_lem b c.at kind ≡ false → no_room_lem room c kind ≡ false
      → Outcome b room c (Ok (taken b c kind))
  line_taken bare w p i r = of_line (record { kind = Line; is_line_law = bare; whole = w; identified = i }) (not-false _ p) (ltb-false _ _ r)
  line_taken identified w p i r = of_line (record { kind = Identified; is_line_law = identified; whole = w; identified = i }) (not-false _ p) (ltb-false _ _ r)

  of_taken : (kind : Kind) → Whole b c.at kind → out_of_place_lem c kind ≡ false → no_identifier_lem b c.at kind ≡ false → no_room_lem room c kind ≡ false
      → Outcome b room c (Ok (taken b c kind))
  of_taken Variables w p i r = of_variables w p
  of_taken Line w p i r = line_taken bare w p i r
  of_taken End w p i r = of_end w (not-false _ p)
  of_taken Identified w p i r = line_taken identified w p i r

  -- the tests, one after the other
  of_known : (kind : Kind) → kind_at_lem b c.at ≡ Some kind → Outcome b room c (placed b room c (Some kind))
  of_known kind k =
      by_test P (not (eqb (le16 b c.at) (body_size_lem kind))) (λ e. refused _) (λ e.
      by_test P (ltb (length b) (behind c kind)) (λ f. refused _) (λ f.
      by_test P (out_of_place_lem c kind) (λ p. refused _) (λ p.
      by_test P (no_identifier_lem b c.at kind) (λ i. refused _) (λ i.
      by_test P (no_room_lem room c kind) (λ r. refused _) (λ r.
      of_taken kind (record { named = k; sized = eqb-true _ _ (not-false _ e); whole = ltb-false _ _ f }) p i r)))))
    where
      P : Result Next FileRefusal → Type 0
      P = Outcome b room c

  pub outcome : Outcome b room c (next_record_lem b room c)
  unfolding next_record_lem
  outcome = by_test (Outcome b room c) (ltb (length b) (c.at + header_size)) (λ e. refused _) (λ e. go (kind_at_lem b c.at) refl)
    where
      go : (k : Option Kind) → kind_at_lem b c.at ≡ k → Outcome b room c (placed b room c k)
      go None k = refused _
      go (Some kind) k = of_known kind k

  -- the other way: a record that passes all tests is taken
  pub next_taken : (kind : Kind) → Whole b c.at kind → out_of_place_lem c kind ≡ false → no_identifier_lem b c.at kind ≡ false → no_room_lem room c kind ≡ false
      → next_record_lem b room c ≡ Ok (taken b c kind)
  unfolding next_record_lem
  next_taken kind w p i r =
      rw (le-ltb (length b) (c.at + header_size) (omega (arith, w.whole)), w.named)
      (rw (eq-eqb (le16 b c.at) (body_size_lem kind) w.sized, le-ltb (length b) (behind c kind) w.whole, p, i, r))
