-- A packed number stands for one answer only, of those that one call gives: the tag and the three fields give the answer back.
use mathlib.Core.Path.{◌≡◌, sym, ap, ap₂, ◌∙◌}
use mathlib.Core.List.{List}
use mathlib.Core.Option.{Option, none, some}
use lib.ListN.{length}
use Prim.Native.Nat.{ℕ, zero, suc}
use native.Mathlib.Omega.{arith}
use Rattle.ast.specs.Answer.{Answer, refused, twice, result, located, other, Fits}
use Rattle.names.specs.Number.{number_of}
use Rattle.names.specs.declared.NamePlace.{NamePlace}
use Rattle.table.specs.Table.{Table, Found}
use Rattle.rows.specs.Rows.{Row}
use Rattle.ast.specs.Rules.{module_rules}
use Rattle.scopes.specs.Resolve.{test_table, Way, refuses, stops, fills, way, answer_by, table_call, resolve}
use Rattle.scopes.specs.Calls.{test_rows, rows_call}
use Rattle.scopes.specs.Lookup.{test_lookup, symbol_answer, found_by, lookup_call}
use Rattle.bindings.specs.Errors.{error_rows, test_errors, errors}
use Rattle.sorted.specs.Sorted.{placed, sorted}
use Rattle.index.specs.Index.{Outcome, index_call, indexed_call}
use Rattle.index.proofs.Tests.{Makes, keeps, makes, Looks, looks, indexed-looks}
use Rattle.index.proofs.Tests.{fills as filled, stops as stopped}
use Rattle.occurrences.specs.Occurrences.{occurrence_rows, lone, rows_by_rule, lone_answer, occurrences, once}
use Rattle.rename.proofs.Ways.{call-is}
use Rattle.exports.specs.Alike.{Counts, Locates, Alike, Looking, climbing, chaining, Filling, resolving, checking, sorting, counting, listing, indexing, renaming}
use Rattle.exports.specs.Packed.{packed, Places}

pub one_answer : (x y : Answer) → Alike x y → Fits x → Fits y → packed x ≡ packed y → x ≡ y
unfolding packed Fits
one_answer (refused n) (refused m) u f g e = ap refused (omega arith)
one_answer (refused n) (twice y c d) u f g e = absurd (omega arith)
one_answer (refused n) (result c d) u f g e = absurd (omega arith)
one_answer (refused n) (located s k m) u f g e = absurd (omega arith)
one_answer (refused n) (other c d) u f g e = absurd (omega arith)
one_answer (twice x a b) (refused m) u f g e = absurd (omega arith)
one_answer (twice x a b) (twice y c d) u f g e =
    let p : x ≡ y = omega arith in
    let q : a ≡ c = omega arith in
    let r : b ≡ d = omega arith in
    cc
one_answer (twice x a b) (result c d) u f g e = absurd (omega arith)
one_answer (twice x a b) (located s k m) u f g e = absurd (omega arith)
one_answer (twice x a b) (other c d) u f g e = absurd (omega arith)
one_answer (result a b) (refused m) u f g e = absurd (omega arith)
one_answer (result a b) (twice y c d) u f g e = absurd (omega arith)
one_answer (result a b) (result c d) u f g e = let p : a ≡ c = omega arith in let q : b ≡ d = omega arith in cc
one_answer (result a b) (located s k m) u f g e = absurd (u.0 tt tt)
one_answer (result a b) (other c d) u f g e = absurd (omega arith)
one_answer (located s k n) (refused m) u f g e = absurd (omega arith)
one_answer (located s k n) (twice y c d) u f g e = absurd (omega arith)
one_answer (located s k n) (result c d) u f g e = absurd (u.1 tt tt)
one_answer (located s k n) (located t l m) u f g e =
    let p : s ≡ t = omega arith in
    let q : k ≡ l = omega arith in
    let r : n ≡ m = omega arith in
    cc
one_answer (located s k n) (other c d) u f g e = absurd (omega arith)
one_answer (other a b) (refused m) u f g e = absurd (omega arith)
one_answer (other a b) (twice y c d) u f g e = absurd (omega arith)
one_answer (other a b) (result c d) u f g e = absurd (omega arith)
one_answer (other a b) (located s k m) u f g e = absurd (omega arith)
one_answer (other a b) (other c d) u f g e = let p : a ≡ c = omega arith in let q : b ≡ d = omega arith in cc

-- any two answers of lookups are alike, and any two of calls that are lent words to fill
symbol-none : (img : List ℕ) (o : Option Found) → Counts (symbol_answer img o) → ⊥
unfolding symbol_answer
symbol-none img none h = h
symbol-none img (some f) h = h

lookup-none : (img tab : List ℕ) (s : ℕ) (bs : List ℕ) → Counts (lookup_call img tab s bs) → ⊥
unfolding lookup_call
lookup-none img tab s bs = go (test_lookup img tab s)
  where
    go : (r : ℕ) → Counts (elim r as (λ _. Answer) [ zero ↦ symbol_answer img (found_by img tab s (number_of img bs)) | suc i ↦ refused (suc i) ]) → ⊥
    go zero h = symbol-none img (found_by img tab s (number_of img bs)) h
    go (suc i) h = h

indexed-none : (img tab index : List ℕ) (s : ℕ) (bs : List ℕ) → Counts (indexed_call img tab index s bs) → ⊥
indexed-none img tab index s bs = go (indexed-looks img tab index s bs)
  where
    go : {a : Answer} → Looks img tab index s bs a → Counts a → ⊥
    go (looks e) h = lookup-none img tab s bs h
    go (stopped r e) h = h

looking-none : {a : Answer} → Looking a → Counts a → ⊥
looking-none (climbing img tab s bs) h = lookup-none img tab s bs h
looking-none (chaining img tab index s bs) h = indexed-none img tab index s bs h

pub lookings-alike : {a b : Answer} → Looking a → Looking b → Alike a b
lookings-alike f g = ((λ c l. looking-none f c), (λ l c. looking-none g c))

unlocated : (f : Table → Answer) → ((t : Table) → Locates (f t) → ⊥) → (w : Way) → Locates (answer_by f w) → ⊥
unfolding answer_by
unlocated f n (refuses k) h = h
unlocated f n (stops x a b) h = h
unlocated f n (fills t) h = n t h

table-none : (img tab : List ℕ) (r : ℕ) (f : Table → Answer) → ((t : Table) → Locates (f t) → ⊥) → Locates (table_call img tab r f).answer → ⊥
unfolding table_call
table-none img tab r f n = unlocated f n (way img tab r)

rows-none : (img tab rows : List ℕ) (r : ℕ) (f : Table → List Row) → Locates (rows_call img tab rows r f).answer → ⊥
unfolding rows_call
rows-none img tab rows r f = unlocated (λ t. result 0 (length (f t))) (λ t h. h) (way img tab r)

lone-none : (o : Option Row) → Locates (lone_answer o) → ⊥
unfolding lone_answer
lone-none none h = h
lone-none (some w) h = h

index-none : (img tab index : List ℕ) → Locates (index_call img tab index).answer → ⊥
index-none img tab index = go (makes img tab index)
  where
    go : {o : Outcome} → Makes img tab index o → Locates o.answer → ⊥
    go (filled e) h = h
    go (keeps r e) h = h

filling-none : {a : Answer} → Filling a → Locates a → ⊥
unfolding resolve errors sorted once occurrences
filling-none (resolving img tab) h = table-none img tab (test_table img tab) (λ t. result t.scopes t.symbols) (λ t l. l) h
filling-none (checking img tab rows mode) h = rows-none img tab rows (test_errors img tab rows mode) (λ t. error_rows img t mode) h
filling-none (sorting img tab rows mode) h = rows-none img tab rows (test_errors img tab rows mode) (λ t. placed img (error_rows img t mode)) h
filling-none (counting img tab) h = table-none img tab (test_table img tab) (λ t. lone_answer (lone (rows_by_rule img t (module_rules img)))) (λ t l. lone-none _ l) h
filling-none (listing img tab rows) h = rows-none img tab rows (test_rows img tab rows) (occurrence_rows img) h
filling-none (indexing img tab index) h = index-none img tab index h
filling-none (renaming img tab rows i x out) h =
    call-is img tab rows i x out (λ a bs. Locates a → ⊥) (λ r l k. k) (rows-none img tab rows (test_rows img tab rows) (occurrence_rows img)) (λ e h l k. k) h

pub fillings-alike : {a b : Answer} → Filling a → Filling b → Alike a b
fillings-alike f g = ((λ c l. filling-none g l), (λ l c. filling-none f l))

-- a number that Name hands back stands for one place only
pub one-place : (r : ℕ) (p q : NamePlace) → Places r p → Places r q → p ≡ q
one-place r p q f g =
    let e = sym f.number ∙ g.number in
    let a = f.start_fits in
    let b = f.len_fits in
    let c = g.start_fits in
    let d = g.len_fits in
    let s : p.start ≡ q.start = omega arith in
    let l : p.len ≡ q.len = omega arith in
    ap₂ (λ (x y : ℕ). record { start = x; len = y }) s l
