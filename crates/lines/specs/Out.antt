-- Bytes put one after another into a lent buffer, and the bytes of rows as they stand in lent words.
use Rattle.std.specs.Prelude.{◌≡◌, true, false, List, [], ◌∷◌, ◌++◌, ℕ, zero, suc, ◌+◌, ◌≤◌, ltb, length, get_or, set, take}
use Rattle.lines.specs.declared.Printer.{Printer}
use Rattle.lines.specs.Bytes.{numbers}

-- the next place, and the buffer
pub record Out : Type 0 where
  pub place : ℕ
  pub bytes : List ℕ

abbrev pub out_at : ℕ → List ℕ → Out
out_at p ws = record { place = p; bytes = ws }

-- the place and the buffer of a printer
abbrev pub out_of : Printer → Out
out_of p = out_at p.place p.bytes.now

-- one byte more; a byte for which there is no place is dropped
unfoldable pub put : ℕ → Out → Out
put b o = elim (ltb o.place (length o.bytes)) [ true ↦ out_at (o.place + 1) (set o.bytes o.place b) | false ↦ o ]

unfoldable pub write : List ℕ → Out → Out
write [] o = o
write (b ∷ bs) o = write bs (put b o)

-- the lines of the c rows from the i-th on, of an image of n nodes; `word` is what each begins with
unfoldable pub rows_from : List ℕ → List ℕ → ℕ → ℕ → ℕ → List ℕ
rows_from word rows n zero i = []
rows_from word rows n (suc c) i = (word ++ numbers (get_or rows (1 + i) 0 ∷ get_or rows (1 + n + i) 0 ∷ [])) ++ rows_from word rows n c (i + 1)

-- what `bs` does to a printer, which keeps its buffer, and how long it is at most
pub record Wrote (bs : List ℕ) (most : ℕ) (before after : Printer) : Type 0 where
  pub same : after.bytes.ghost_name ≡ before.bytes.ghost_name
  pub out : out_of after ≡ write bs (out_of before)
  pub short : length bs ≤ most

-- the first r bytes of a buffer are `bs`; `counted` follows from `within`, and is there for callers that lend those bytes on
pub record Printed (bs : List ℕ) (r : ℕ) (buffer : List ℕ) : Type 0 where
  pub within : r ≤ length buffer
  pub counted : r ≡ length (take r buffer)
  pub bytes : take r buffer ≡ bs
