-- Laws of rows as lines: what is left to put, and that the whole follows from it.
use mathlib.Core.Path.{◌≡◌, refl, sym, ap, ◌∙◌}
use mathlib.Core.List.{List, [], ◌∷◌, ◌++◌, append-nil, append_assoc}
use Prim.Native.Nat.{ℕ, zero, suc, ◌+◌, ◌*◌, ◌≤◌}
use native.Mathlib.Omega.{arith}
use lib.ListN.{length, get_or}
use Rattle.rows.specs.declared.Written.{Written}
use Rattle.rows.specs.declared.Pairs.{Pairs}
use Rattle.rows.specs.Rows.{Row, read_rows, shown, pairs_left}
use Rattle.rows.proofs.Reading.{read_length}
use Rattle.lines.specs.declared.Printer.{Printer}
use Rattle.lines.specs.Bytes.{numbers}
use Rattle.lines.specs.Out.{rows_from, Wrote}
use Rattle.lines.proofs.Puts.{wrote_none, wrote-next, wrote_as}

module _ (word : List ℕ) where
  -- rows as lines
  unfoldable pub lines_of : List Row → List ℕ
  lines_of [] = []
  lines_of (w ∷ l) = (word ++ numbers (w.left ∷ w.right ∷ [])) ++ lines_of l

  from-read : (ws : List ℕ) (n c i : ℕ) → lines_of (read_rows n ws c i) ≡ rows_from word ws n c i
  unfolding rows_from read_rows lines_of
  from-read ws n zero i = refl
  from-read ws n (suc c) i = ap (λ (l : List ℕ). (word ++ numbers (get_or ws (1 + i) 0 ∷ get_or ws (1 + n + i) 0 ∷ [])) ++ l) (from-read ws n c (i + 1))

  module _ (rows : Written) where
    -- some lines are put, and those of the rows of p are left
    pub record LinesLeft (p : Pairs) (start now : Printer) : Type 0 where
      pub bytes : List ℕ
      pub most : ℕ
      pub wrote : Wrote bytes most start now
      pub whole : lines_of (shown rows) ≡ bytes ++ lines_of (pairs_left p)
      pub room : most + 28 * length (pairs_left p) ≤ 28 * rows.count

    pub lines-start : {p : Pairs} (o : Printer) → pairs_left p ≡ shown rows → LinesLeft p o o
    lines-start o e =
        record {
          bytes = [];
          most = 0;
          wrote = wrote_none o;
          whole = ap lines_of (sym e);
          room = (let a = ap length e in let b = read_length rows.nodes rows.words.now rows.count 0 in omega arith);
        }

    pub lines-next : {p q : Pairs} {w : Row} {o a b : Printer} → length word ≤ 5 → LinesLeft p o a → pairs_left p ≡ w ∷ pairs_left q
        → Wrote (word ++ numbers (w.left ∷ w.right ∷ [])) (length word + 11 * 2 + 1) a b → LinesLeft q o b
    unfolding lines_of
    lines-next {p} {q} {w} few k e h =
        record {
          bytes = k.bytes ++ (word ++ numbers (w.left ∷ w.right ∷ []));
          most = k.most + (length word + 11 * 2 + 1);
          wrote = wrote-next k.wrote h;
          whole = k.whole ∙ ap (λ (l : List Row). k.bytes ++ lines_of l) e ∙ sym (append_assoc k.bytes (word ++ numbers (w.left ∷ w.right ∷ [])) (lines_of (pairs_left q)));
          room = (let a = ap length e in let b = k.room in omega arith);
        }

    pub lines-end : {p : Pairs} {o a : Printer} → LinesLeft p o a → pairs_left p ≡ [] → Wrote (rows_from word rows.words.now rows.nodes rows.count 0) (28 * rows.count) o a
    unfolding lines_of
    lines-end {p} k e =
        wrote_as
        (sym (append-nil k.bytes) ∙ sym (ap (λ (l : List Row). k.bytes ++ lines_of l) e) ∙ sym k.whole ∙ from-read rows.words.now rows.nodes rows.count 0)
        (let b = k.room in omega arith)
        k.wrote
