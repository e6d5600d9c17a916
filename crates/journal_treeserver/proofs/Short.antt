-- No reply to a request is longer than one may be.
use Rattle.std.proofs.Common.{◌≡◌, ℕ, zero, suc, ◌≤◌, Bool, true, false, List, [], ◌∷◌, Option, Some, None, Result, Ok, Err, length, take, slice_get, refl, sym, ap, subst, ◌∙◌, arith}
use Rattle.std.specs.Prelude.{IsTrue, option_map, if◌then◌else◌}
use Rattle.std.proofs.lemmas.Bool.{le-ltb, false≢true}
use Rattle.std.specs.List.{cons_option}
use Rattle.journal_world.specs.Maps.{Transaction}
use Rattle.journal_world.specs.Histories.{Entry, committed, commits, count, opened_map, trusts, is_trusted, after, at, latest}
use Rattle.journal_world.specs.Histories.Entry.{commit as commit_entry}
use Rattle.journal_history.specs.Tokens.{SessionState, CommitPlace}
use Rattle.journal_nfs3_wire.specs.declared.results.NfsError.{NfsError}
use Rattle.journal_nfs3_wire.specs.Arguments as nine
use Rattle.journal_nfs3_wire.specs.Queries as query
use Rattle.journal_tree.specs.declared.caller.Caller.{Caller}
use Rattle.journal_tree.specs.declared.limits.TheConstants.{TRANSFER_BYTES}
use Rattle.journal_tree.specs.declared.reply.Handle.{Handle}
use Rattle.journal_tree.specs.declared.time.Time.{Time}
use Rattle.journal_tree.specs.Op.{Call, getattr, setattr, lookup, access, readlink, read, write, create, mkdir, symlink, mknod, remove, rmdir, rename, link, readdir, readdirplus, fsstat, fsinfo, pathconf, commit, Op, Reply}
use Rattle.journal_tree.specs.Op.Op.{answers_getattr, answers_setattr, answers_lookup, answers_access, answers_readlink, answers_read, answers_write, answers_create, answers_mkdir, answers_symlink, answers_mknod, answers_remove, answers_rmdir, answers_rename, answers_link, answers_readdir, answers_readdirplus, answers_fsstat, answers_fsinfo, answers_pathconf, answers_commit}
use Rattle.journal_tree.specs.Fit.{HasFit}
use Rattle.journal_tree.specs.Trees.{Tree}
use Rattle.journal_treestore.specs.declared.place.Cut.{Cut}
use Rattle.journal_treeobjects.specs.Maps.{tree_at}
use Rattle.journal_treefs.specs.Calls.{IsMadeAt, IsCommittedCall}
use Rattle.journal_treewire.specs.Answers.{answer_of}
use Rattle.journal_treewire.specs.Bounds.{PartsAreShort, TextsAreShort, ListingsAreFew, PlusListingsAreFew}
use Rattle.journal_treewire.specs.Calls.{of_handle, of_handles, file_call, query_call, directory_call, call_on, list_bytes}
use Rattle.journal_treewire.specs.Directories as links
use Rattle.journal_treewire.specs.Handles.{handle_in}
use Rattle.journal_treewire.specs.Requests.{Requested, Requested as requested, file, directory}
use Rattle.journal_treewire.specs.Results.{Results}
use Rattle.journal_treewire.specs.Values.{time_in, settings_in, create_mode_in}
use Rattle.journal_treewire.specs.declared.parts.TheConstants.{MOST_LINES}
use Rattle.journal_treeserver.specs.Answers.{Served, is_long, long_results, told_results, asked_of}
use Rattle.journal_treeserver.specs.Forms.{how_of}
use Rattle.journal_treeserver.specs.Short.{NoReplyIsLong, ResultsAreAnswers}

-- ---- the bytes that a request asks of a listing

abbrev IsModest : Call → Type 0
IsModest (readdir h cookie most) = most ≤ TRANSFER_BYTES
IsModest (readdirplus h cookie names most) = most ≤ TRANSFER_BYTES
IsModest other = Unit {0}

modest_one : (r : Result Handle NfsError) (f : Handle → Call) (call : Call) → ((h : Handle) → IsModest (f h)) → of_handle r f ≡ Ok (Some call) → IsModest call
modest_one (Ok h) f call each e = let same : f h ≡ call = cc in subst IsModest same (each h)
modest_one (Err why) f call each e = absurd (cc e)

modest_two : (r s : Result Handle NfsError) (f : Handle → Handle → Call) (call : Call) → ((h k : Handle) → IsModest (f h k)) → of_handles r s f ≡ Ok (Some call) → IsModest call
modest_two (Ok h) s f call each e = modest_one s (f h) call (each h) e
modest_two (Err why) s f call each e = absurd (cc e)

few_bytes : (count : ℕ) → list_bytes count ≤ TRANSFER_BYTES
few_bytes count = omega arith

module _ (disk : ℕ) (call : Call) where
  file_modest : (o : nine.Operation) → file_call disk o ≡ Ok (Some call) → IsModest call
  file_modest nine.Null e = absurd (cc e)
  file_modest (nine.GetAttributes h) e = modest_one (handle_in disk h) getattr call (λ k. tt) e
  file_modest (nine.SetAttributes h a guard) e = modest_one (handle_in disk h) (λ k. setattr k (settings_in a) (option_map time_in guard)) call (λ k. tt) e
  file_modest (nine.Lookup n) e = modest_one (handle_in disk n.directory) (λ k. lookup k n.called) call (λ k. tt) e
  file_modest (nine.Read h offset count) e = modest_one (handle_in disk h) (λ k. read k offset count) call (λ k. tt) e
  file_modest (nine.Write h offset count how bytes) e = modest_one (handle_in disk h) (λ k. write k offset count bytes) call (λ k. tt) e
  file_modest (nine.Create n how) e = modest_one (handle_in disk n.directory) (λ k. create k n.called (create_mode_in how)) call (λ k. tt) e
  file_modest (nine.Remove n) e = modest_one (handle_in disk n.directory) (λ k. remove k n.called) call (λ k. tt) e
  file_modest (nine.Commit h offset count) e = modest_one (handle_in disk h) commit call (λ k. tt) e

  query_modest : (q : query.Query) → query_call disk q ≡ Ok (Some call) → IsModest call
  query_modest (query.Access h asked) e = modest_one (handle_in disk h) (λ k. access k asked) call (λ k. tt) e
  query_modest (query.ReadDirectory p) e = modest_one (handle_in disk p.directory) (λ k. readdir k p.cookie (list_bytes p.count)) call (λ k. few_bytes p.count) e
  query_modest (query.ReadDirectoryPlus p) e = modest_one (handle_in disk p.directory) (λ k. readdirplus k p.cookie (list_bytes p.names_count) (list_bytes p.count)) call (λ k. few_bytes p.count) e
  query_modest (query.FileSystemStatus h) e = modest_one (handle_in disk h) fsstat call (λ k. tt) e
  query_modest (query.FileSystemInformation h) e = modest_one (handle_in disk h) fsinfo call (λ k. tt) e
  query_modest (query.PathConfiguration h) e = modest_one (handle_in disk h) pathconf call (λ k. tt) e

  directory_modest : (d : links.DirectoryOperation) → directory_call disk d ≡ Ok (Some call) → IsModest call
  directory_modest (links.ReadLink h) e = modest_one (handle_in disk h) readlink call (λ k. tt) e
  directory_modest (links.MakeDirectory n a) e = modest_one (handle_in disk n.directory) (λ k. mkdir k n.called (settings_in a)) call (λ k. tt) e
  directory_modest (links.MakeLink a) e = modest_one (handle_in disk a.entry.directory) (λ k. symlink k a.entry.called (settings_in a.attributes) a.path) call (λ k. tt) e
  directory_modest (links.MakeNode n d) e = modest_one (handle_in disk n.directory) (λ k. mknod k n.called) call (λ k. tt) e
  directory_modest (links.RemoveDirectory n) e = modest_one (handle_in disk n.directory) (λ k. rmdir k n.called) call (λ k. tt) e
  directory_modest (links.Rename n m) e = modest_two (handle_in disk n.directory) (handle_in disk m.directory) (λ h k. rename h n.called k m.called) call (λ h k. tt) e
  directory_modest (links.Link h n) e = modest_two (handle_in disk h) (handle_in disk n.directory) (λ k d. link k d n.called) call (λ h k. tt) e

  request_modest : (asked : Requested) → call_on disk asked ≡ Ok (Some call) → IsModest call
  request_modest (file o) e = file_modest o e
  request_modest (requested.query q) e = query_modest q e
  request_modest (directory d) e = directory_modest d e

-- also where the tree is only read
kept : (read_only : Bool) (call : Call) → IsModest call → IsModest (asked_of read_only call)
kept false call m = m
kept true (getattr h) m = m
kept true (setattr h s guard) m = m
kept true (lookup h name) m = m
kept true (access h asked) m = tt
kept true (readlink h) m = m
kept true (read h offset count) m = m
kept true (write h offset count bytes) m = m
kept true (create h name how) m = m
kept true (mkdir h name s) m = m
kept true (symlink h name s text) m = m
kept true (mknod h name) m = m
kept true (remove h name) m = m
kept true (rmdir h name) m = m
kept true (rename h name k new_name) m = m
kept true (link h k name) m = m
kept true (readdir h cookie most) m = m
kept true (readdirplus h cookie names most) m = m
kept true (fsstat h) m = m
kept true (fsinfo h) m = m
kept true (pathconf h) m = m
kept true (commit h) m = m

-- ---- the tree before a commit

-- the commits of the first entries are the first commits
first_commits : (n : ℕ) (es : List Entry) → take (length (commits (take n es))) (commits es) ≡ commits (take n es)
first_commits zero [] = refl
first_commits zero (e ∷ es) = refl
first_commits (suc n) [] = refl
first_commits (suc n) (e ∷ es) = with_one (committed e) (commits (take n es)) (commits es) (first_commits n es)
  where
    with_one : (o : Option Transaction) (ts us : List Transaction) → take (length ts) us ≡ ts → take (length (cons_option o ts)) (cons_option o us) ≡ cons_option o ts
    with_one None ts us same = same
    with_one (Some t) ts us same = ap (λ l. t ∷ l) same

-- so the map before a commit is one of those that the history has
map_before : (seen : List Entry) (place : ℕ) (t : Transaction) → slice_get seen place ≡ Some (commit_entry t) → IsTrue (is_trusted seen) → at seen (count (take place seen)) ≡ latest (take place seen)
map_before [] place t stands trusted = absurd (cc stands)
map_before (e ∷ es) zero t stands trusted =
    let same : e ≡ commit_entry t = cc in
    absurd (false≢true (sym (ap trusts same) ∙ trusted))
map_before (e ∷ es) (suc place) t stands trusted = ap (after (opened_map e)) (first_commits (suc place) (e ∷ es))

-- and its tree is within its bounds
fits_before : (c : Cut) (call : Call) (caller : Caller) (now : Time) (old new : SessionState) (r : Reply) (place : ℕ) → IsMadeAt c call caller now old new r place → IsTrue (is_trusted new.seen)
    → HasFit (tree_at c (latest (take place new.seen)))
fits_before c call caller now old new r place is trusted =
    subst (λ m. HasFit (tree_at c m)) (map_before new.seen place is.made is.stands trusted) (is.ruled trusted (count (take place new.seen))).sound.fit

-- ---- its answer

module _ (parts : PartsAreShort) (texts : TextsAreShort) (plain : ListingsAreFew) (plus : PlusListingsAreFew) where
  never_long : (call : Call) (c : Caller) (now : Time) (T T2 : Tree) (r : Reply) → IsModest call → HasFit T → Op call c now T r T2 → is_long r ≡ false
  never_long call c now T T2 r m fit (answers_getattr _ _ _ _ _ _ e) = refl
  never_long call c now T T2 r m fit (answers_setattr _ _ _ _ _ _ _ _ e) = refl
  never_long call c now T T2 r m fit (answers_lookup _ _ _ _ _ _ _ e) = refl
  never_long call c now T T2 r m fit (answers_access _ _ _ _ _ _ _ e) = refl
  never_long call c now T T2 r m fit (answers_readlink h _ _ _ _ (Ok l) e) = le-ltb _ _ (texts h c now T T2 l fit (answers_readlink h c now T T2 (Ok l) e))
  never_long call c now T T2 r m fit (answers_readlink h _ _ _ _ (Err why) e) = refl
  never_long call c now T T2 r m fit (answers_read h offset count _ _ _ _ (Ok p) e) = le-ltb _ _ (omega (arith, parts h offset count c now T T2 p (answers_read h offset count c now T T2 (Ok p) e)))
  never_long call c now T T2 r m fit (answers_read h offset count _ _ _ _ (Err why) e) = refl
  never_long call c now T T2 r m fit (answers_write _ _ _ _ _ _ _ _ _ _ e) = refl
  never_long call c now T T2 r m fit (answers_create _ _ _ _ _ _ _ _ _ _ e) = refl
  never_long call c now T T2 r m fit (answers_mkdir _ _ _ _ _ _ _ _ _ _ e) = refl
  never_long call c now T T2 r m fit (answers_symlink _ _ _ _ _ _ _ _ _ _ _ e) = refl
  never_long call c now T T2 r m fit (answers_mknod _ _ _ _ _ _ _ e) = refl
  never_long call c now T T2 r m fit (answers_remove _ _ _ _ _ _ _ e) = refl
  never_long call c now T T2 r m fit (answers_rmdir _ _ _ _ _ _ _ e) = refl
  never_long call c now T T2 r m fit (answers_rename _ _ _ _ _ _ _ _ _ _ _ _ _ e) = refl
  never_long call c now T T2 r m fit (answers_link _ _ _ _ _ _ _ _ e) = refl
  never_long call c now T T2 r m fit (answers_readdir h cookie most _ _ _ _ (Ok l) e) = le-ltb _ _ (omega (arith, m, plain h cookie most c now T T2 l (answers_readdir h cookie most c now T T2 (Ok l) e)))
  never_long call c now T T2 r m fit (answers_readdir h cookie most _ _ _ _ (Err why) e) = refl
  never_long call c now T T2 r m fit (answers_readdirplus h cookie names most _ _ _ _ (Ok l) e) = le-ltb _ _ (omega (arith, m, plus h cookie names most c now T T2 l (answers_readdirplus h cookie names most c now T T2 (Ok l) e)))
  never_long call c now T T2 r m fit (answers_readdirplus h cookie names most _ _ _ _ (Err why) e) = refl
  never_long call c now T T2 r m fit (answers_fsstat _ _ _ _ _ _ _ _ e) = refl
  never_long call c now T T2 r m fit (answers_fsinfo _ _ _ _ _ _ e) = refl
  never_long call c now T T2 r m fit (answers_pathconf _ _ _ _ _ _ e) = refl
  never_long call c now T T2 r m fit (answers_commit _ _ _ _ _ _ e) = refl

  pub no_reply_is_long : NoReplyIsLong
  no_reply_is_long disk read_only asked call caller now T T2 r e fit op = never_long (asked_of read_only call) caller now T T2 r (kept read_only call (request_modest disk call asked e)) fit op

  -- results that are not long are the answer's
  as_answered : (long : Bool) (told other : Results) → long ≡ false → (if long then other else told) ≡ told
  as_answered true told other e = absurd (cc e)
  as_answered false told other e = refl

  pub results_are_answers : ResultsAreAnswers
  results_are_answers S asked call caller now old new r receipt e is trusted =
      as_answered (is_long r) (answer_of S.disk S.verifier (how_of asked) (asked_of S.read_only call) r) (long_results r) (no_reply_is_long S.disk S.read_only asked call caller now _ _ r e
      (fits_before S.cut (asked_of S.read_only call) caller now old new r receipt.place is.made trusted) (is.made.call_is trusted))
