use mathlib.Core.Path.{sym, ap, ◌∙◌}
use mathlib.Core.List.{List, ◌++◌}
use Prim.Native.Nat.{ℕ}
use lib.ListN.{length, drop}
use Rattle.error.proofs.Refused.{refusal-some, passed-on}
use Rattle.rows.specs.Rows.{shown}
use Rattle.rename.specs.Rename.{set_words, offsets, renamed, out_after}
use Rattle.rename.proofs.Ways.{out-kept}
use Rattle.rename.proofs.write_renamed.Goals as goal

pub test_rename-requires : goal.test_rename-requires
unfolding renamed
test_rename-requires c = c.put_names.ensures ∙ ap (set_words (offsets c.args.image.now c.args.binding.0 (shown c.args.list)) c.args.name) c.copy_from_slice.ensures.after

pub returns-in_err-test_rename-clause-output : goal.returns-in_err-test_rename-clause-output
returns-in_err-test_rename-clause-output c = out-kept _ _ _ _ _ _ (λ z. refusal-some _ (sym (passed-on _ _ c.from_residual.ensures.1) ∙ z))

pub returns-clause-output : goal.returns-clause-output
unfolding out_after renamed
returns-clause-output c =
    ap (λ (bs : List ℕ). bs ++ drop (length c.args.image.now) c.args.output.now)
    (c.copy_from_slice-2.ensures.after ∙ c.put_names.ensures ∙ ap (set_words (offsets c.args.image.now c.args.binding.0 (shown c.args.list)) c.args.name) c.copy_from_slice.ensures.after)
