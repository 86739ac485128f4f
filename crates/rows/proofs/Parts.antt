-- Rows that are appended part by part: what is left to append, and that the whole follows from it.
use mathlib.Core.Path.{◌≡◌, refl, sym, subst, ◌∙◌}
use mathlib.Core.List.{List, [], ◌++◌}
use Prim.Native.Nat.{ℕ, ◌+◌, ◌<◌, ◌^◌}
use native.Mathlib.Omega.{arith}
use lib.ListN.{length, length-append}
use Rattle.rows.specs.declared.Rows.{Rows}
use Rattle.rows.specs.Rows.{Row, Appended, Appends}
use Rattle.rows.proofs.Appends.{appended-none, appended-next}

pub appends-none : (rows : Rows) → Appends [] rows rows
appends-none rows = record { appended = appended-none rows.nodes rows.count rows.words.now; nodes = refl; lent = refl }

-- equal rows are appended alike
pub appends-as : {l k : List Row} {a b : Rows} → l ≡ k → Appends l a b → Appends k a b
appends-as {a = a} {b} e h = subst (λ (l : List Row). Appends l a b) e h

pub appends-no : {l : List Row} (rows : Rows) → l ≡ [] → Appends l rows rows
appends-no rows e = appends-as (sym e) (appends-none rows)

-- some after others
pub appends-next : {l k : List Row} {a b c : Rows} → Appends l a b → Appends k b c → Appends (l ++ k) a c
appends-next {l} {k} {a} {b} {c} f g =
    record {
      appended = appended-next f.appended (subst (λ (n : ℕ). Appended n k b.count b.words.now c.count c.words.now) f.nodes g.appended);
      nodes = g.nodes ∙ f.nodes;
      lent = g.lent ∙ f.lent;
    }

-- a loop came from `start` to `now`; the rows `rest` are left, and with them the whole is appended
pub record Left (whole rest : List Row) (start now : Rows) : Type 0 where
  pub fits : now.count + length rest < 2 ^ 32
  pub so : (end : Rows) → Appends rest now end → Appends whole start end

pub left-start : {whole rest : List Row} (rows : Rows) → whole ≡ rest → rows.count + length whole < 2 ^ 32 → Left whole rest rows rows
left-start {whole} rows e h =
    subst (λ (l : List Row). Left whole l rows rows) e (record { fits = h; so = λ end g. g })

-- one part more
pub left-next : {whole rest l more : List Row} {start now next : Rows} → Left whole rest start now → rest ≡ l ++ more → Appends l now next → Left whole more start next
left-next {l = l} {more} {now = now} h e g =
    record {
      fits = (let a = subst (λ (m : List Row). now.count + length m < 2 ^ 32) e h.fits in let b = length-append l more in let d = g.appended.count in omega arith);
      so = λ end f. h.so end (appends-as (sym e) (appends-next g f));
    }

-- room for a part
pub left-room : {whole rest : List Row} {start now : Rows} (l more : List Row) → Left whole rest start now → rest ≡ l ++ more → now.count + length l < 2 ^ 32
left-room {now = now} l more h e = let a = subst (λ (m : List Row). now.count + length m < 2 ^ 32) e h.fits in let b = length-append l more in omega arith

pub left_end : {whole rest : List Row} {start now : Rows} → Left whole rest start now → rest ≡ [] → Appends whole start now
left_end {now = now} h e = h.so now (appends-no now e)
