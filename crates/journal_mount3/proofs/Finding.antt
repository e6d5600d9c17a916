-- The entry of a cookie is found.
use Rattle.std.proofs.Common.{◌≡◌, ℕ, ◌≤◌, ◌<◌, Bool, false, List, [], ◌∷◌, Option, Some, Result, Ok, refl, sym, subst}
use Rattle.std.specs.Prelude.{MatchBool}
use Rattle.std.proofs.lemmas.Bool.{le-leb, lt-leb}
use Rattle.journal_history.specs.Tokens.{SessionState}
use Rattle.journal_inode.specs.declared.node.Time.{Time}
use Rattle.journal_inode.specs.declared.version.FormatVersion.{FormatVersion}
use Rattle.journal_file_types.specs.declared.pending_wait.PendingWait.TheVariants.{Nothing}
use Rattle.journal_file_types.specs.declared.reply.Attributes.{Attributes}
use Rattle.journal_file_types.specs.declared.reply.Found.{Found}
use Rattle.journal_filestore.specs.Operations.{Op, Call as call, Reply as reply}
use Rattle.journal_nfs3_wire.specs.declared.results.NfsError.{NfsError}
use Rattle.journal_nfs3_wire.specs.Handles.{FileHandle, file_handle, handle_in}
use Rattle.journal_xdr.specs.Basic.{word, spelled_number}
use Rattle.journal_nfs3.specs.Served.{awaiting, TellsOutcome}
use Rattle.journal_mount3.specs.Entries.{file_name}
use Rattle.journal_mount3.specs.Mounts.{root_handle}
use Rattle.journal_mount3.specs.Listings.{LooksUp, Listed, Finds, FindsFile}

-- the root's handle is one
pub root_in : handle_in (74 ∷ 78 ∷ 76 ∷ 49 ∷ 0 ∷ 0 ∷ 0 ∷ 1 ∷ 0 ∷ 0 ∷ 0 ∷ 1 ∷ []) ≡ Some root_handle
unfolding file_handle word spelled_number
root_in = refl

-- and these bytes are it
pub root_is : 74 ∷ 78 ∷ 76 ∷ 49 ∷ 0 ∷ 0 ∷ 0 ∷ 1 ∷ 0 ∷ 0 ∷ 0 ∷ 1 ∷ [] ≡ file_handle.spelling root_handle
unfolding file_handle word
root_is = refl

-- a LOOKUP as journal_nfs3 does it
abbrev looks_at : FormatVersion → Option FileHandle → List ℕ → SessionState → SessionState → Result Found NfsError → Type 0
looks_at version handle name old new told =
    TellsOutcome version (awaiting Nothing) handle false (λ k F r F2. (t : Time) → Op version (call.lookup k.number k.generation name) t F (reply.found r) F2) old new told

pub looked_up : (version : FormatVersion) (handle : Option FileHandle) (name : List ℕ) (number : ℕ) (old new : SessionState) (told : Result Found NfsError) → handle ≡ Some root_handle → name ≡ file_name number
    → looks_at version handle name old new told → LooksUp version number old new told
looked_up version handle name number old new told is named h =
    subst (λ (n : List ℕ). looks_at version (Some root_handle) n old new told) named (subst (λ (k : Option FileHandle). looks_at version k name old new told) is h)

module _ {E : Type 0} (version : FormatVersion) (cookie : ℕ) (root : Attributes) (old new : SessionState) (view : E → Listed) where
  abbrev DotFound : Result (Option E) NfsError → Type 0
  DotFound result = (new ≡ old) × (e : E) × (result ≡ Ok (Some e)) × (view e ≡ record { cookie = cookie; generation = 1; attributes = root })

  pub finds_dot : (result : Result (Option E) NfsError) → cookie ≤ 2 → DotFound result → Finds version cookie root old new view result
  finds_dot result near h = subst (λ (b : Bool). MatchBool b (DotFound result) (FindsFile version cookie old new view result)) (sym (le-leb cookie 2 near)) h

  pub finds_file : (result : Result (Option E) NfsError) → 2 < cookie → FindsFile version cookie old new view result → Finds version cookie root old new view result
  finds_file result far h = subst (λ (b : Bool). MatchBool b (DotFound result) (FindsFile version cookie old new view result)) (sym (lt-leb cookie 2 far)) h

  pub dot_found : (result : Result (Option E) NfsError) → cookie ≤ 2 → Finds version cookie root old new view result → DotFound result
  dot_found result near h = subst (λ (b : Bool). MatchBool b (DotFound result) (FindsFile version cookie old new view result)) (le-leb cookie 2 near) h

  pub file_found : (result : Result (Option E) NfsError) → 2 < cookie → Finds version cookie root old new view result → FindsFile version cookie old new view result
  file_found result far h = subst (λ (b : Bool). MatchBool b (DotFound result) (FindsFile version cookie old new view result)) (lt-leb cookie 2 far) h
