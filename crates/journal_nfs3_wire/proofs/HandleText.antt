-- How a handle is spelled.
use Rattle.std.proofs.Common.{◌≡◌, ℕ, List, ◌++◌, refl, append_assoc}
use Rattle.journal_xdr.specs.Basic.{word, fixed, opaque}
use Rattle.journal_nfs3_wire.specs.Handles.{FileHandle, file_handle}
use Rattle.journal_nfs3_wire.specs.Results.{given_handle}

pub handle_text : (h : FileHandle) → given_handle.spelling h ≡ word.spelling 12 ++ (word.spelling 1246645297 ++ (word.spelling h.number ++ word.spelling h.generation))
unfolding given_handle opaque fixed file_handle word
handle_text h = refl

-- The four integers behind some bytes are the handle behind them
pub wrote_handle : (h : FileHandle) (a b c d e : List ℕ) → b ≡ a ++ word.spelling 12 → c ≡ b ++ word.spelling 1246645297 → d ≡ c ++ word.spelling h.number → e ≡ d ++ word.spelling h.generation
    → e ≡ a ++ given_handle.spelling h
wrote_handle h a b c d e is_b is_c is_d is_e = rw (is_e, is_d, is_c, is_b, handle_text h) (simp append_assoc)
