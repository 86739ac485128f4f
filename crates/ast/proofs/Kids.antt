-- Children by numbers: what may stand in a row, who may stand above whom, and that each node but the last stands below one.
use mathlib.Core.Bool.{Bool, true, false, ◌||◌}
use mathlib.Core.Path.{◌≡◌, sym, subst}
use mathlib.Core.Logic.{⊎_elim}
use mathlib.Core.List.Memᴰ
use mathlib.Core.List.{List, [], ◌∷◌, Memᴰ}
use Prim.Native.Nat.{ℕ, zero, suc, ◌+◌, ◌<◌, ◌≤◌}
use native.Mathlib.Nat.{add-zero}
use native.Mathlib.Omega.{arith}
use native.Mathlib.Decide.{ℕ_discrete}
use lib.Dec.{T, eqb, eqb_refl}
use lib.ListN.{length, get_or}
use Rattle.ast.specs.Image.{nodes, kind_at, start_at, op_at, last}
use Rattle.ast.specs.Kinds.{Field, name, opt_name, child, opt_child, list, lists, cases, no_child, Kind, kinds, kind_of}
use Rattle.ast.specs.Rows.{one, numbers, ops_from, after, block_kids, field_kids, fields_kids, fields_at, kids, kids_to}
use Rattle.ast.specs.Tests.{times, verdict}
use Rattle.ast.proofs.Formed.{Child, Items, FormedBlocks, FormedField, FormedFields, FormedNode}
use Rattle.ast.proofs.Unfold.{All, nil, cons, All-append, All-map, numbers-append, numbers-ones}
use Rattle.ast.proofs.Count.{is-other, parents}
use Rattle.ast.proofs.Vars.{check_all, every-kind}

pub all-mem : {P : ℕ → Type 0} {c : ℕ} {cs : List ℕ} → All P cs → Memᴰ c cs → P c
all-mem {P = P} {c = c} nil x3 = elim x3 [ ]
all-mem {P} (cons h r) (Memᴰ.head e) = subst P (sym e) h
all-mem (cons h r) (Memᴰ.tail m) = all-mem r m

-- a child of kind k may stand in a field
abbrev among_cases : List ℕ → ℕ → Bool
among_cases [] k = false
among_cases (c ∷ cs) k = eqb c k || among_cases cs k

abbrev in_field : Field → ℕ → Bool
in_field name k = false
in_field opt_name k = false
in_field (child c) k = eqb c k
in_field (opt_child c) k = eqb c k
in_field (list c) k = eqb c k
in_field (lists c) k = eqb c k
in_field (cases cs) k = among_cases cs k

abbrev pub child_kind : List Field → ℕ → Bool
child_kind [] k = false
child_kind (g ∷ gs) k = in_field g k || child_kind gs k

or_left : (a b : Bool) → T a → T (a || b)
or_left true b t = tt
or_left false b t = absurd t

or_right : (a b : Bool) → T b → T (a || b)
or_right true b t = tt
or_right false b t = t

among-at : (cs : List ℕ) (i : ℕ) → i < length cs → T (among_cases cs (get_or cs i no_child))
among-at [] i l = absurd (omega arith)
among-at (c ∷ cs) zero l = or_left (eqb c c) (among_cases cs c) (eqb_refl c)
among-at (c ∷ cs) (suc i) l = or_right (eqb c (get_or cs i no_child)) (among_cases cs (get_or cs i no_child)) (among-at cs i (omega arith))

module _ (img : List ℕ) (n : ℕ) where
  -- c is below n, and of a kind that the test q admits
  abbrev Admitted : (ℕ → Bool) → ℕ → Type 0
  Admitted q c = (c < n) × T (q (kind_at img c))

  admit : (k c : ℕ) → Child img n k c → Admitted (λ x. eqb k x) c
  admit k c h = (h.0, subst (λ (x : ℕ). T (eqb k x)) (sym h.1) (eqb_refl k))

  ops-admitted : (k c p : ℕ) → Items img n k c p → All (Admitted (λ x. eqb k x)) (ops_from img c p)
  unfolding ops_from
  ops-admitted k zero p h = nil
  ops-admitted k (suc c) p h = cons (admit k _ (rw add-zero at (h 0 (omega arith)))) (ops-admitted k c (p + 1) rest)
    where
      rest : Items img n k c (p + 1)
      rest j l = let q : p + suc j ≡ p + 1 + j = omega arith in rw q at (h (suc j) (omega arith))

  blocks-admitted : (k c p : ℕ) → FormedBlocks img n k c p → All (Admitted (λ x. eqb k x)) (numbers (block_kids img c p))
  unfolding block_kids FormedBlocks numbers
  blocks-admitted k zero p h = nil
  blocks-admitted k (suc c) p h = All-append (ops-admitted k (op_at img p) (p + 1) h.1) (blocks-admitted k c (p + 1 + op_at img p) h.2)

  option-admitted : (k w : ℕ) → elim w as (λ x. Type 0) [ zero ↦ Unit {0} | suc c ↦ Child img n k c ]
      → All (Admitted (λ x. eqb k x)) (numbers (elim w [ zero ↦ [] | suc c ↦ one c ∷ [] ]))
  unfolding numbers
  option-admitted k zero h = nil
  option-admitted k (suc c) h = cons (admit k c h) nil

  case-admitted : (b : Bool) (cs : List ℕ) (k c : ℕ) → T (among_cases cs k) → elim b as (λ x. Type 0) [ true ↦ Unit {0} | false ↦ Child img n k c ]
      → All (Admitted (among_cases cs)) (numbers (elim b [ true ↦ [] | false ↦ one c ∷ [] ]))
  unfolding numbers
  case-admitted true cs k c t h = nil
  case-admitted false cs k c t h = cons (h.0, subst (λ (x : ℕ). T (among_cases cs x)) (sym h.1) t) nil

  field-admitted : (g : Field) (p : ℕ) → FormedField img n g p → All (Admitted (in_field g)) (numbers (field_kids img g p))
  unfolding FormedField field_kids numbers
  field-admitted name p h = nil
  field-admitted opt_name p h = nil
  field-admitted (child k) p h = cons (admit k _ h) nil
  field-admitted (opt_child k) p h = option-admitted k (op_at img p) h
  field-admitted (list k) p h = rw numbers-ones (ops-admitted k (op_at img p) (p + 1) h)
  field-admitted (lists k) p h = blocks-admitted k (op_at img p) (p + 1) h
  field-admitted (cases ks) p h =
      case-admitted (eqb (get_or ks (op_at img p) no_child) no_child) ks (get_or ks (op_at img p) no_child) (op_at img (p + 1)) (among-at ks (op_at img p) h.0) h.1

  fields-admitted : (gs : List Field) (p : ℕ) → FormedFields img n gs p → All (Admitted (child_kind gs)) (numbers (fields_kids img gs p))
  unfolding FormedFields fields_kids numbers
  fields-admitted [] p h = nil
  fields-admitted (g ∷ gs) p h =
      rw numbers-append
      (All-append
      (All-map (λ c a. (a.0, or_left (in_field g (kind_at img c)) (child_kind gs (kind_at img c)) a.1)) (field-admitted g p h.1))
      (All-map (λ c a. (a.0, or_right (in_field g (kind_at img c)) (child_kind gs (kind_at img c)) a.1)) (fields-admitted gs (after img g p) h.2)))

  -- the children of a formed row: below it, and of kinds that its fields want
  pub kids-admitted : FormedNode img n → All (λ c. (c < n) × T (child_kind (kind_of (kind_at img n)).fields (kind_at img c))) (numbers (kids img n))
  unfolding kids fields_at
  kids-admitted f = fields-admitted (fields_at img n) (start_at img n + 2) f.row

  pub kid-admitted : {c : ℕ} → FormedNode img n → Memᴰ c (numbers (kids img n)) → (c < n) × T (child_kind (kind_of (kind_at img n)).fields (kind_at img c))
  kid-admitted f m = all-mem (kids-admitted f) m

-- a fact of every parent kind and every child kind, computed
pub every-pair : (g : ℕ → Kind → ℕ → Bool) → T (check_all (λ k kd. check_all (λ c cd. g k kd c) kinds) kinds) → (k c : ℕ) → k ≤ 40 → c ≤ 40 → T (g k (kind_of k) c)
every-pair g t k c l m = every-kind (λ x xd. g k (kind_of k) x) (every-kind (λ x xd. check_all (λ y yd. g x xd y) kinds) t k l) c m

-- each node but the last stands in the row of another -----------------------------------------------------------------
stands : (c : ℕ) (cs : List ℕ) → 0 < times c cs → Memᴰ c cs
unfolding times
stands c [] h = absurd (omega arith)
stands c (x ∷ xs) h = go (ℕ_discrete c x) (stands c xs)
  where
    go : Dec (c ≡ x) → (0 < times c xs → Memᴰ c xs) → Memᴰ c (x ∷ xs)
    go (yes e) r = Memᴰ.head e
    go (no e) r = let z = is-other c x e in Memᴰ.tail (r (omega arith))

module _ (img : List ℕ) where
  -- c stands in the row of one of the first m nodes
  abbrev pub Below : ℕ → ℕ → Type 0
  Below m c = (p : ℕ) × (p < m) × Memᴰ c (numbers (kids img p))

  below-some : (m c : ℕ) → Memᴰ c (kids_to img m) → Below m c
  unfolding kids_to
  below-some zero c h = elim h [ ]
  below-some (suc m) c h = ⊎_elim (λ k. further (below-some m c k)) (λ k. (m, omega arith, k)) (Memᴰ.append_cases (kids_to img m) h)
    where
      further : Below m c → Below (suc m) c
      further b = (b.0, let l = b.1 in omega arith, b.2)

  pub parent : verdict img ≡ 0 → (c : ℕ) → c < last img → Below (nodes img) c
  parent e c l = below-some (nodes img) c (stands c _ (let z = parents img e c l in omega arith))
