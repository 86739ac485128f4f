-- The blocks in the row of a branch, one after another: what acceptance says of those that are left.
use mathlib.Core.Path.{◌≡◌, subst}
use mathlib.Core.List.{List}
use Prim.Native.Nat.{ℕ, zero, suc, ◌+◌, ◌-◌, ◌<◌, ◌≤◌}
use native.Mathlib.Omega.{arith}
use native.Mathlib.Nat.{le_refl, le_trans}
use Rattle.ast.specs.Image.{field}
use Rattle.ast.specs.Is.{Is, Run}
use Rattle.ast.specs.Kinds.{kind_of}
use Rattle.ast.proofs.Row.{next, ends, blocks_end, FormedBlocks, FormedFields}
use Rattle.ast.proofs.Shapes.{one_more, formed-row, row, run_of}

module _ (img : List ℕ) where
  ends-grows : (n c j : ℕ) → j ≤ blocks_end img n c j
  unfolding blocks_end
  ends-grows n zero j = le_refl j
  ends-grows n (suc c) j = let h = ends-grows n c (j + 1 + field img n j) in omega arith

  -- after i of the count blocks, from place j on
  pub record BlocksFrom (n count i j : ℕ) : Type 0 where
    pub is : Is img (kind_of 39) n
    pub within : i ≤ count
    pub formed : FormedBlocks img n 36 (count - i) j
    pub short : blocks_end img n (count - i) j ≤ 8192

  pub blocks_from : {n count : ℕ} → Is img (kind_of 39) n → count ≡ field img n 0 → BlocksFrom n count 0 1
  unfolding FormedFields ends next kind_of
  blocks_from {n} {count} is q =
      let e : field img n 0 ≡ count - 0 = omega arith in
      record {
        is = is;
        within = omega arith;
        formed = subst (λ (c : ℕ). FormedBlocks img n 36 c 1) e (row img is).0;
        short = subst (λ (c : ℕ). blocks_end img n c 1 ≤ 8192) e (formed-row img is).short;
      }

  -- one block more
  pub record NextBlock (n count i j : ℕ) : Type 0 where
    pub run : Run img 36 n (j + 1) (field img n j)
    pub from : BlocksFrom n count (i + 1) (j + 1 + field img n j)

  pub next-block : {n count i j : ℕ} → BlocksFrom n count i j → i < count → NextBlock n count i j
  unfolding FormedBlocks blocks_end
  next-block {n} {count} {i} {j} b l =
      let c = count - (i + 1) in
      let hs : FormedBlocks img n 36 (suc c) j = subst (λ (x : ℕ). FormedBlocks img n 36 x j) (one_more l) b.formed in
      let sh : blocks_end img n c (j + 1 + field img n j) ≤ 8192 = subst (λ (x : ℕ). blocks_end img n x j ≤ 8192) (one_more l) b.short in
      record {
        run = run_of img b.is hs.0 (le_trans (ends-grows n c (j + 1 + field img n j)) sh);
        from = record { is = b.is; within = omega arith; formed = hs.1; short = sh };
      }
