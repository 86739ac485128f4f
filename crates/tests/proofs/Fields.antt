-- The answers of the tests of fields, from what the code reads.
use mathlib.Core.Path.{◌≡◌, refl, sym, ap, ◌∙◌}
use mathlib.Core.Bool.{true, false, not, true≢false}
use denote.Enum.Bare.{sameb}
use Rattle.ast.specs.contracts.times.Times.{the_type}
use mathlib.Core.List.{List, [], ◌∷◌}
use Prim.Native.Nat.{ℕ, suc, ◌+◌, ◌-◌, ◌<◌, ◌≤◌}
use native.Mathlib.Omega.{arith}
use lib.Dec.{leb, ltb, leb-suc-suc}
use lib.ListN.{length, get_or, set, drop}
use borrow.Author.Tests.{lt-ltb, le-ltb, eq-eqb, ne_eqb}
use Rattle.std.proofs.lemmas.List.{map-set}
use Rattle.std.proofs.Math.ListN.{get_or-map}
use Rattle.std.specs.Prelude.{Result, Ok, Err}
use Rattle.ast.specs.Image.{kind_at, op_at, operands, names}
use Rattle.ast.specs.KindNumbers.{kind_number}
use Rattle.ast.specs.Kinds.{Field, name, opt_name, child, opt_child, list, lists, cases, no_child}
use Rattle.ast.specs.Promises.{bump, claim_all}
use Rattle.ast.specs.Rows.{numbers, ops_from, after_blocks, block_kids, after, after_fields, field_kids, fields_kids}
use Rattle.ast.specs.Tests.{◌▸◌, need, run, in_row, is_child, child_word, test_blocks, test_field, test_fields}
use Rattle.ast.specs.declared.kind.Kind.{Kind}
use Rattle.ast.specs.declared.kind.Kind.TheVariants as kind
use Rattle.ast.proofs.Scans.{need-in, need-out, claim-append, ▸-assoc, ▸-zero}
use Rattle.ast.proofs.Shapes.{one_more}
use Rattle.ast.proofs.Unfold.{numbers-ones, numbers-append}
use Rattle.error.specs.Refusals.{refusal_number}
use Rattle.error.specs.declared.Refusal.{Refusal}
use Rattle.ast.specs.Times.{times_number, counts}
use Rattle.tests.specs.Claims.{Counted}
use Rattle.tests.specs.Rows.{Went, FieldStep, FieldsStep}
use Rattle.tests.specs.Steps.{Answered}
use Rattle.ast.specs.declared.times.Times.{Times}
use Rattle.ast.specs.declared.times.Times.TheVariants as times
use Rattle.tests.specs.declared.Row.{Row}
use Rattle.tests.proofs.Steps.{passes, refuses, skips, stops, retests, maps}

-- no kind has a number over 40
pub kind-low : (k : Kind) → kind_number k ≤ 40
kind-low kind.Module = omega arith
kind-low kind.Decl = omega arith
kind-low kind.TypeDecl = omega arith
kind-low kind.PredDecl = omega arith
kind-low kind.FuncDecl = omega arith
kind-low kind.ConstDecl = omega arith
kind-low kind.RuleDecl = omega arith
kind-low kind.EnumDecl = omega arith
kind-low kind.ModelDecl = omega arith
kind-low kind.CtorDecl = omega arith
kind-low kind.ArgDecl = omega arith
kind-low kind.ArgDeclList = omega arith
kind-low kind.Term = omega arith
kind-low kind.IdentTerm = omega arith
kind-low kind.AppTerm = omega arith
kind-low kind.AppHead = omega arith
kind-low kind.AppHeadMember = omega arith
kind-low kind.TermMember = omega arith
kind-low kind.DomTerm = omega arith
kind-low kind.CodTerm = omega arith
kind-low kind.IdTerm = omega arith
kind-low kind.CompTerm = omega arith
kind-low kind.TermList = omega arith
kind-low kind.TypeExpr = omega arith
kind-low kind.AmbientTypeExpr = omega arith
kind-low kind.MorTypeExpr = omega arith
kind-low kind.PredExpr = omega arith
kind-low kind.AmbientPredExpr = omega arith
kind-low kind.IfAtom = omega arith
kind-low kind.ThenAtom = omega arith
kind-low kind.EqualAtom = omega arith
kind-low kind.PredAtom = omega arith
kind-low kind.DefinedIfAtom = omega arith
kind-low kind.VarIfAtom = omega arith
kind-low kind.DefinedThenAtom = omega arith
kind-low kind.MatchCase = omega arith
kind-low kind.Stmt = omega arith
kind-low kind.IfStmt = omega arith
kind-low kind.ThenStmt = omega arith
kind-low kind.BranchStmt = omega arith
kind-low kind.MatchStmt = omega arith

module _ (img : List ℕ) where
  pub in-row : (p : ℕ) → p < operands img → in_row img p ≡ 0
  unfolding in_row
  in-row p h = need-in 7 _ (lt-ltb _ _ h)

  pub out-row : (p : ℕ) → operands img ≤ p → in_row img p ≡ 7
  unfolding in_row
  out-row p h = need-out 7 _ (le-ltb _ _ h)

  module _ (n : ℕ) where
    -- a child, or none
    pub child-in : (k c : ℕ) → c < n → kind_at img c ≡ k → is_child img n k c ≡ 0
    unfolding is_child need ◌▸◌
    child-in k c h e = rw (lt-ltb _ _ h, eq-eqb _ _ e)

    pub child-high : (k c : ℕ) → n ≤ c → is_child img n k c ≡ 9
    unfolding is_child need ◌▸◌
    child-high k c h = rw (le-ltb _ _ h)

    pub child-other : (k c : ℕ) → c < n → (kind_at img c ≡ k → ⊥) → is_child img n k c ≡ 9
    unfolding is_child need ◌▸◌
    child-other k c h e = rw (lt-ltb _ _ h, ne_eqb _ _ e)

    -- a row that ends before the field
    pub row-out : (g : Field) (p : ℕ) (e : Refusal) {us vs : List ℕ} → refusal_number e ≡ in_row img p → FieldStep img n g p us vs (Err e)
    unfolding test_field child_word
    row-out name p e h = stops e _ _ (sym h)
    row-out opt_name p e h = stops e _ _ (sym h)
    row-out (child k) p e h = stops e _ _ (sym h)
    row-out (opt_child k) p e h = stops e _ _ (sym h)
    row-out (list k) p e h = stops e _ _ (sym h)
    row-out (lists k) p e h = stops e _ _ (sym h)
    row-out (cases ks) p e h = stops e _ _ (sym h)

    -- the test of a number
    number_test : ℕ → ℕ → ℕ
    number_test count p = in_row img p ▸ need 8 (ltb (op_at img p) count)

    number_opt : (p : ℕ) → number_test (names img + 1) p ≡ in_row img p ▸ need 8 (leb (op_at img p) (names img))
    unfolding number_test
    number_opt p = ap (λ b. in_row img p ▸ need 8 b) (ap (leb (suc (op_at img p))) (omega arith) ∙ leb-suc-suc (op_at img p) (names img))

    module _ (p count : ℕ) (e : Refusal) {us vs : List ℕ} (h : refusal_number e ≡ in_row img p ▸ need 8 (ltb (op_at img p) count)) where
      pub name-out : count ≡ names img → FieldStep img n name p us vs (Err e)
      unfolding test_field
      name-out c = refuses e _ (sym (rw c at h))

      pub opt_name-out : count ≡ names img + 1 → FieldStep img n opt_name p us vs (Err e)
      unfolding test_field number_test
      opt_name-out c = refuses e _ (sym (number_opt p) ∙ sym (rw c at h))

      pub cases-out : (ks : List ℕ) → count ≡ length ks → FieldStep img n (cases ks) p us vs (Err e)
      unfolding test_field
      cases-out ks c = retests _ _ (▸-assoc _ _ _) (stops e _ _ (sym (rw c at h)))

    module _ (p count : ℕ) (b : Row) {us : List ℕ} (h : 0 ≡ in_row img p ▸ need 8 (ltb (op_at img p) count)) (i : b.image.now.image.now ≡ img) (m : b.node.0 ≡ n) (q : b.at ≡ p + 1) where
      pub name_in : count ≡ names img → FieldStep img n name p us us (Ok b)
      unfolding test_field after field_kids numbers claim_all
      name_in c = passes b _ (sym (rw c at h)) (record { image = i; node = m; place = q; claimed = refl })

      pub opt_name-in : count ≡ names img + 1 → FieldStep img n opt_name p us us (Ok b)
      unfolding test_field after field_kids numbers claim_all number_test
      opt_name-in c = passes b _ (sym (number_opt p) ∙ sym (rw c at h)) (record { image = i; node = m; place = q; claimed = refl })

      pub case-none : (ks : List ℕ) → count ≡ length ks → get_or ks (op_at img p) no_child ≡ no_child → FieldStep img n (cases ks) p us us (Ok b)
      unfolding test_field after field_kids numbers claim_all
      case-none ks c f = rw (f, test_field, after, field_kids) (retests _ _ (▸-assoc _ _ _) (skips _ _ (sym (rw c at h)) (passes b _ refl (record { image = i; node = m; place = q; claimed = refl }))))

      pub case-in : (ks : List ℕ) (k : ℕ) {vs : List ℕ} (r : Result Row Refusal) → count ≡ length ks → get_or ks (op_at img p) no_child ≡ k → (k ≡ no_child → ⊥)
          → FieldStep (b.image.now.image.now) b.node.0 (child k) b.at us vs r → FieldStep img n (cases ks) p us vs r
      unfolding test_field after field_kids numbers
      case-in ks k r c f z t =
          rw (f, ne_eqb _ _ z, test_field, after, field_kids)
          (retests _ _ (▸-assoc _ _ _) (skips _ _ (sym (rw c at h)) (retests _ _ (ap (λ x. child_word img n x (p + 1)) (sym f)) (maps _ r (λ x w. record { image = w.image; node = w.node; place = w.place ∙ omega arith; claimed = w.claimed }) (rw (i, m, q) at t)))))

    -- a child, read and tested
    module _ (p w : ℕ) (e : w ≡ op_at img p) (h : 0 ≡ in_row img p) where
      pub child-out : (k : ℕ) (f : Refusal) {us vs : List ℕ} → refusal_number f ≡ is_child img n k w → FieldStep img n (child k) p us vs (Err f)
      unfolding test_field child_word
      child-out k f t = skips _ _ (sym h) (refuses f _ (sym (rw e at t)))

      pub opt_child-out : (k : ℕ) (f : Refusal) {us vs : List ℕ} (c : ℕ) → w ≡ suc c → refusal_number f ≡ is_child img n k c → FieldStep img n (opt_child k) p us vs (Err f)
      unfolding test_field
      opt_child-out k f c q t = let g : op_at img p ≡ suc c = sym e ∙ q in rw (g, test_field) (skips _ _ (sym h) (refuses f _ (sym t)))

      module _ (b : Row) (i : b.image.now.image.now ≡ img) (m : b.node.0 ≡ n) (q : b.at ≡ p + 1) where
        pub child-read : (k : ℕ) (us vs : List Times) → 0 ≡ is_child img n k w → Counted w us vs → FieldStep img n (child k) p (counts us) (counts vs) (Ok b)
        unfolding test_field child_word after field_kids numbers claim_all
        child-read k us vs t d = skips _ _ (sym h) (passes b _ (sym (rw e at t)) (record { image = i; node = m; place = q; claimed = rw e at d }))

        pub opt_child-none : (k : ℕ) {us : List ℕ} → w ≡ 0 → FieldStep img n (opt_child k) p us us (Ok b)
        unfolding test_field after field_kids numbers claim_all
        opt_child-none k z = let g : op_at img p ≡ 0 = sym e ∙ z in rw (g, test_field, field_kids) (skips _ _ (sym h) (passes b _ refl (record { image = i; node = m; place = q; claimed = refl })))

        pub opt_child-read : (k c : ℕ) (us vs : List Times) → w ≡ suc c → 0 ≡ is_child img n k c → Counted c us vs → FieldStep img n (opt_child k) p (counts us) (counts vs) (Ok b)
        unfolding test_field after field_kids numbers claim_all
        opt_child-read k c us vs z t d = let g : op_at img p ≡ suc c = sym e ∙ z in rw (g, test_field, field_kids) (skips _ _ (sym h) (passes b _ (sym t) (record { image = i; node = m; place = q; claimed = d })))

    -- the items of a list, and the blocks of a branch
    abbrev pub ItemsStep : ℕ → ℕ → ℕ → List ℕ → List ℕ → Result Row Refusal → Type 0
    ItemsStep k c p us vs r = Answered (run (child_word img n k) c p) (Went img n (p + c) (ops_from img c p) us vs) r

    abbrev pub BlocksStep : ℕ → ℕ → ℕ → List ℕ → List ℕ → Result Row Refusal → Type 0
    BlocksStep k c p us vs r = Answered (test_blocks img n k c p) (Went img n (after_blocks img c p) (numbers (block_kids img c p)) us vs) r

    module _ (p w : ℕ) (e : w ≡ op_at img p) (h : 0 ≡ in_row img p) (k : ℕ) {us vs : List ℕ} {r : Result Row Refusal} where
      pub list-in : ItemsStep k w (p + 1) us vs r → FieldStep img n (list k) p us vs r
      unfolding test_field after field_kids numbers
      list-in t = skips _ _ (sym h) (rw numbers-ones (rw e at t))

      pub lists-in : BlocksStep k w (p + 1) us vs r → FieldStep img n (lists k) p us vs r
      unfolding test_field after field_kids
      lists-in t = skips _ _ (sym h) (rw e at t)

    -- what is left of them, once those before have passed
    module _ (k count p : ℕ) (us : List ℕ) where
      pub record ItemsLeft (left : ℕ) (row : Row) (vs : List ℕ) : Type 0 where
        pub image : row.image.now.image.now ≡ img
        pub node : row.node.0 ≡ n
        pub whole : {ws : List ℕ} {r : Result Row Refusal} → ItemsStep k left row.at vs ws r → ItemsStep k count p us ws r

      pub record BlocksLeft (left : ℕ) (row : Row) (vs : List ℕ) : Type 0 where
        pub image : row.image.now.image.now ≡ img
        pub node : row.node.0 ≡ n
        pub whole : {ws : List ℕ} {r : Result Row Refusal} → BlocksStep k left row.at vs ws r → BlocksStep k count p us ws r

      module _ (row : Row) where
        module _ (i : ℕ) (h : i < count) {vs ws : List ℕ} where
          pub items-stop : (e : Refusal) → ItemsLeft (count - i) row vs → FieldStep (row.image.now.image.now) row.node.0 (child k) row.at vs ws (Err e) → ItemsStep k count p us ws (Err e)
          unfolding run test_field
          items-stop e l t = l.whole (rw (one_more h, run) (stops e _ _ (sym (rw (l.image, l.node) at t).refusal)))

          pub items-next : (b : Row) → ItemsLeft (count - i) row vs → FieldStep (row.image.now.image.now) row.node.0 (child k) row.at vs ws (Ok b) → ItemsLeft (count - (i + 1)) b ws
          unfolding run ops_from test_field after field_kids numbers claim_all
          items-next b l t =
              let u = rw (l.image, l.node) at t in
              record {
                image = u.went.image;
                node = u.went.node;
                whole = λ {ws = xs} {r = r} s. l.whole (rw (one_more h, run, ops_from) (skips _ _ (sym u.refusal) (maps _ r (λ x w. record {
                  image = w.image;
                  node = w.node;
                  place = w.place ∙ omega arith;
                  claimed = w.claimed ∙ ap (claim_all (ops_from img (count - (i + 1)) (row.at + 1))) u.went.claimed;
                }) (rw u.went.place at s))));
              }

          pub blocks-stop : (e : Refusal) → BlocksLeft (count - i) row vs → FieldStep (row.image.now.image.now) row.node.0 (list k) row.at vs ws (Err e) → BlocksStep k count p us ws (Err e)
          unfolding test_blocks test_field
          blocks-stop e l t = l.whole (rw (one_more h, test_blocks) (retests _ _ (▸-assoc _ _ _) (stops e _ _ (sym (rw (l.image, l.node) at t).refusal))))

          pub blocks-next : (b : Row) → BlocksLeft (count - i) row vs → FieldStep (row.image.now.image.now) row.node.0 (list k) row.at vs ws (Ok b) → BlocksLeft (count - (i + 1)) b ws
          unfolding test_blocks after_blocks block_kids test_field after field_kids numbers
          blocks-next b l t =
              let u = rw (l.image, l.node) at t in
              record {
                image = u.went.image;
                node = u.went.node;
                whole = λ {ws = xs} {r = r} s. l.whole (rw (one_more h, test_blocks, after_blocks, block_kids) (retests _ _ (▸-assoc _ _ _) (skips _ _ (sym u.refusal) (maps _ r (λ x w. record {
                  image = w.image;
                  node = w.node;
                  place = w.place;
                  claimed = w.claimed ∙ ap (claim_all (numbers (block_kids img (count - (i + 1)) (row.at + 1 + op_at img row.at)))) (rw numbers-ones at u.went.claimed)
                      ∙ sym (claim-append (ops_from img (op_at img row.at) (row.at + 1)) _ vs);
                }) (rw u.went.place at s)))));
              }

        module _ {vs : List ℕ} where
          pub items-end : ItemsLeft (count - count) row vs → ItemsStep k count p us vs (Ok row)
          unfolding run ops_from claim_all
          items-end l = let z : count - count ≡ 0 = omega arith in l.whole (rw (z, run, ops_from) (passes row _ refl (record { image = l.image; node = l.node; place = omega arith; claimed = refl })))

          pub blocks-end : BlocksLeft (count - count) row vs → BlocksStep k count p us vs (Ok row)
          unfolding test_blocks after_blocks block_kids numbers claim_all
          blocks-end l = let z : count - count ≡ 0 = omega arith in l.whole (rw (z, test_blocks, after_blocks, block_kids) (passes row _ refl (record { image = l.image; node = l.node; place = refl; claimed = refl })))

    -- fields, one after another
    module _ (p : ℕ) {us vs : List ℕ} (fs : List Field) (g : Field) where
      pub fields-out : fs ≡ g ∷ drop 1 fs → (e : Refusal) → FieldStep img n g p us vs (Err e) → FieldsStep img n fs p us vs (Err e)
      unfolding test_fields
      fields-out q e t = go fs (drop 1 fs) q
        where
          go : (fs gs : List Field) → fs ≡ g ∷ gs → FieldsStep img n fs p us vs (Err e)
          go fs gs q = rw (q, test_fields) (stops e _ _ (sym t.refusal))

      pub fields-in : (gs : List Field) → fs ≡ g ∷ gs → (b : Row) {ws : List ℕ} (r : Result Row Refusal) → FieldStep img n g p us vs (Ok b)
          → FieldsStep (b.image.now.image.now) b.node.0 gs b.at vs ws r → FieldsStep img n fs p us ws r
      unfolding test_fields after_fields fields_kids
      fields-in gs q b r t s =
          rw (q, test_fields, after_fields, fields_kids)
          (skips _ _ (sym t.refusal) (maps _ r (λ x w. record {
            image = w.image;
            node = w.node;
            place = w.place;
            claimed = rw numbers-append (w.claimed ∙ ap (claim_all (numbers (fields_kids img gs (after img g p)))) t.went.claimed ∙ sym (claim-append (numbers (field_kids img g p)) _ us));
          }) (rw (t.went.image, t.went.node, t.went.place) at s)))

    pub fields-last : (p : ℕ) {us vs : List ℕ} (fs : List Field) (g : Field) → fs ≡ g ∷ [] → (r : Result Row Refusal) → FieldStep img n g p us vs r → FieldsStep img n fs p us vs r
    unfolding test_fields after_fields fields_kids numbers claim_all
    fields-last p {us} fs g q r t = rw (q, test_fields, after_fields, fields_kids) (retests _ _ (sym (▸-zero _)) (maps _ r (λ x w. record {
      image = w.image;
      node = w.node;
      place = w.place;
      claimed = rw numbers-append (w.claimed ∙ sym (claim-append (numbers (field_kids img g p)) [] us));
    }) t))

-- node i is counted once more
pub counts-more : (us : List Times) (i : ℕ) (m : Times) → times_number m ≡ bump (times_number (get_or us i times.Never)) → Counted i us (set us i m)
counts-more us i m h = map-set times_number us i m ∙ ap (set (counts us) i) (h ∙ ap bump (sym (get_or-map times_number us i times.Never)))

-- a claim that is the one of a node counted once, as the code compares
pub is-once : (m : Times) → not (sameb the_type m times.Once) ≡ false → times_number m ≡ 1
is-once times.Never h = absurd (true≢false h)
is-once times.Once h = refl
is-once times.Several h = absurd (true≢false h)

pub not_once : (m : Times) → not (sameb the_type m times.Once) ≡ true → times_number m ≡ 1 → ⊥
not_once times.Never h e = absurd (omega arith)
not_once times.Once h e = absurd (true≢false (sym h))
not_once times.Several h e = absurd (omega arith)
