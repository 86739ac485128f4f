-- Input longer than any image has the report of its first 61,457 bytes.
use mathlib.Core.Path.{◌≡◌, refl, sym, ap, ◌∙◌}
use mathlib.Core.Bool.{Bool}
use mathlib.Core.List.{List, [], ◌∷◌}
use Prim.Native.Nat.{ℕ, zero, suc, ◌+◌, ◌*◌, ◌<◌, ◌≤◌}
use native.Mathlib.Decide.{dec_lt}
use native.Mathlib.Omega.{arith}
use lib.Dec.{leb, ltb, eqb, leb→le}
use lib.ListN.{length, take}
use lib.Seq.{get_or-take, length-take-le, take_all}
use borrow.Author.Tests.{le-leb, ne_eqb}
use Rattle.ast.specs.Image.{word, nodes, operands, names, bytes}
use Rattle.ast.specs.Tests.{◌▸◌, need, test_sizes, verdict}
use Rattle.ast.proofs.Words.{word_in}
use Rattle.ast.proofs.Accepted.{needed, stop, passed, sizes-ok}
use Rattle.ast.specs.Answer.{refused}
use Rattle.scopes.specs.Resolve.{Outcome, test_table, resolve}
use Rattle.scopes.proofs.Calls.{call-refused}
use Rattle.scopes.specs.Calls.{lent_table}
use Rattle.lines.specs.Report.{refusal, lines_of, report}
use Rattle.lines.specs.Bytes.{report_bytes, lines_bytes}

-- more bytes than any image has
abbrev pub too_many : ℕ
too_many = 61457

-- what comes first decides, unless it passes
first-same : (a x y : ℕ) → (a ≡ 0 → x ≡ y) → a ▸ x ≡ a ▸ y
unfolding ◌▸◌
first-same zero x y f = f refl
first-same (suc a) x y f = refl

first-only : (a b x y : ℕ) → a ≡ b → (a ≡ 0 → ⊥) → a ▸ x ≡ b ▸ y
unfolding ◌▸◌
first-only zero b x y e f = absurd (f refl)
first-only (suc a) zero x y e f = absurd (omega arith)
first-only (suc a) (suc b) x y e f = e

-- tests 1 to 3 of a length and four sizes
unfoldable sizes_test : ℕ → ℕ → ℕ → ℕ → ℕ → ℕ
sizes_test l n c s b =
    need 1 (leb 16 l)
    ▸ need 2 (ltb 0 n) ▸ need 2 (leb n 2048)
    ▸ need 2 (leb c 8192) ▸ need 2 (leb s 1024) ▸ need 2 (leb b 8192)
    ▸ need 3 (eqb l (16 + 8 * n + 4 * c + 4 * s + b))

sizes-long : (l m n c s b : ℕ) → too_many ≤ l → too_many ≤ m → sizes_test l n c s b ≡ sizes_test m n c s b
unfolding sizes_test
sizes-long l m n c s b h k =
    ap (λ (t : Bool). need 1 t ▸ rest l) (le-leb 16 l (omega arith) ∙ sym (le-leb 16 m (omega arith)))
    ∙ ap (λ (t : ℕ). need 1 (leb 16 m) ▸ t)
    (first-same _ _ _ (λ _. first-same _ _ _ (λ p. first-same _ _ _ (λ q. first-same _ _ _ (λ u. first-same _ _ _ (λ v. last p q u v))))))
  where
    wanted : ℕ
    wanted = 16 + 8 * n + 4 * c + 4 * s + b

    rest : ℕ → ℕ
    rest x = need 2 (ltb 0 n) ▸ need 2 (leb n 2048) ▸ need 2 (leb c 8192) ▸ need 2 (leb s 1024) ▸ need 2 (leb b 8192) ▸ need 3 (eqb x wanted)

    last : need 2 (leb n 2048) ≡ 0 → need 2 (leb c 8192) ≡ 0 → need 2 (leb s 1024) ≡ 0 → need 2 (leb b 8192) ≡ 0 → need 3 (eqb l wanted) ≡ need 3 (eqb m wanted)
    last p q u v =
        let e = leb→le n 2048 (needed 1 _ p) in
        let f = leb→le c 8192 (needed 1 _ q) in
        let g = leb→le s 1024 (needed 1 _ u) in
        let j = leb→le b 8192 (needed 1 _ v) in
        ap (need 3) (ne_eqb l wanted (λ z. omega arith) ∙ sym (ne_eqb m wanted (λ z. omega arith)))

-- a word that lies within the first k bytes
word-front : (k : ℕ) (img : List ℕ) (o : ℕ) → o + 4 ≤ k → k ≤ length img → word img o ≡ word (take k img) o
word-front k img o h l =
    let e = length-take-le k img l in
    let p = get_or-take k img o 0 (omega arith) in
    let q = get_or-take k img (o + 1) 0 (omega arith) in
    let r = get_or-take k img (o + 2) 0 (omega arith) in
    let s = get_or-take k img (o + 3) 0 (omega arith) in
    word_in img o (omega arith) ∙ sym (word_in (take k img) o (omega arith) ∙ (omega arith))

-- tests 1 to 3 of an image
sizes-are : (img : List ℕ) → test_sizes img ≡ sizes_test (length img) (word img 0) (word img 4) (word img 8) (word img 12)
unfolding test_sizes sizes_test nodes operands names bytes
sizes-are img = refl

module _ (img : List ℕ) (h : too_many ≤ length img) where
  test_sizes-long : test_sizes img ≡ test_sizes (take too_many img)
  test_sizes-long =
      sizes-are img
      ∙ rw (word-front too_many img 0 (omega arith) h, word-front too_many img 4 (omega arith) h, word-front too_many img 8 (omega arith) h, word-front too_many img 12 (omega arith) h)
      (sizes-long (length img) (length (take too_many img)) _ _ _ _ h (let e = length-take-le too_many img h in omega arith))
      ∙ sym (sizes-are (take too_many img))

  -- no image is so long
  refused-long : test_sizes img ≡ 0 → ⊥
  refused-long e = let s = sizes-ok img e in omega arith

  pub verdict-long : verdict img ≡ verdict (take too_many img)
  unfolding verdict
  verdict-long = first-only _ _ _ _ test_sizes-long refused-long

  refused-at : verdict img ≡ 0 → ⊥
  refused-at e = refused-long (passed img e).sizes

resolve-refused : (img tab : List ℕ) (r : ℕ) → test_table img tab ≡ suc r → resolve img tab ≡ record { answer = refused (suc r); table = tab }
unfolding resolve
resolve-refused img tab r e = call-refused img tab _ (suc r) (sym e) (λ q. omega arith)

-- an image that is refused has this one line
report-refused : (img : List ℕ) (r : ℕ) → verdict img ≡ suc r → report img ≡ refusal (suc r) ∷ []
unfolding report lines_of test_table
report-refused img r e = ap (λ (o : Outcome). lines_of img o.answer) (resolve-refused img lent_table r (stop _ _ r e))

-- input of any length has the report of its first 61,457 bytes
pub report-front : (img : List ℕ) → report_bytes (take too_many img) ≡ report_bytes img
unfolding report_bytes
report-front img = ap lines_bytes (go (dec_lt (length img) too_many))
  where
    alike : (v : ℕ) → verdict img ≡ v → verdict (take too_many img) ≡ v → (v ≡ 0 → ⊥) → report (take too_many img) ≡ report img
    alike zero p q f = absurd (f refl)
    alike (suc r) p q f = report-refused (take too_many img) r q ∙ sym (report-refused img r p)

    go : Dec (length img < too_many) → report (take too_many img) ≡ report img
    go (yes s) = ap report (take_all too_many img (omega arith))
    go (no s) =
        let h : too_many ≤ length img = omega arith in
        alike (verdict img) refl (sym (verdict-long img h)) (refused-at img h)
