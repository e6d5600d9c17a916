-- Each call is a step, and each step leaves a tree, within its bounds.
use Rattle.std.proofs.Common.{◌≡◌, ◌≢◌, ℕ, ◌<◌, ◌≤◌, ◌==◌, Bool, true, false, Option, Some, None, Result, Ok, Err, refl, sym, ap, subst, arith, ◌⊎◌, inl, inr, ◌∙◌}
use Rattle.std.specs.Prelude.{option_map, if◌then◌else◌}
use Rattle.std.proofs.lemmas.Bool.{cases_eq, eq-eqb}
use Rattle.journal_tree.specs.declared.limits.TheConstants.{MOST_PLACES, LAST_GENERATION}
use Rattle.journal_tree.specs.declared.time.Time.{Time}
use Rattle.journal_tree.specs.declared.status.Status.{Status}
use Rattle.journal_tree.specs.Trees.{Home, Node, Slot, Tree, with_slot, with_node}
use Rattle.journal_tree.specs.Times.{IsTime}
use Rattle.journal_tree.specs.declared.caller.Caller.{Caller}
use Rattle.journal_tree.specs.Rule.{stem_of, HasTree}
use Rattle.journal_tree.specs.Calls.{Outcome}
use Rattle.journal_tree.specs.Changes.{touched, touch, opened, touch_place}
use Rattle.journal_tree.specs.Renames.{Move, rehung, names_moved, new_home}
use Rattle.journal_tree.specs.Op.{Call, Reply, Op, is_refusal}
use Rattle.journal_tree.specs.Op.Op.{answers_getattr, answers_setattr, answers_lookup, answers_access, answers_readlink, answers_read, answers_write, answers_create, answers_mkdir, answers_symlink, answers_mknod, answers_remove, answers_rmdir, answers_rename, answers_link, answers_readdir, answers_readdirplus, answers_fsstat, answers_fsinfo, answers_pathconf, answers_commit}
use Rattle.journal_tree.specs.Fit.{IsFitHome, IsFit, HasFit}
use Rattle.journal_tree.specs.Laws.{TellsTruly, KeepsTrees, KeepsFit, RenamesWhole, RefusalsChangeNothing, RepliesAreTrue}
use Rattle.journal_tree.proofs.Finding.{find-none, find_place-none}
pub use Rattle.journal_tree.proofs.Changing.{same_generation}
use Rattle.journal_tree.proofs.Changing.{at_other, HasTree-same, HasTree-touch, HasTree-cut, HasTree-plant}
use Rattle.journal_tree.proofs.Hanging.{low, not_root}
use Rattle.journal_tree.proofs.Bounds.{change-fits, names-fits, grown-body-fits}
use Rattle.journal_tree.proofs.Steps.{Known, known, IsWithout, Step, IsRight, own_slot}
use Rattle.journal_tree.proofs.Steps.Step.{stays, sets, plants, cuts, moves}
use Rattle.journal_tree.proofs.Moving.{home-place, moved_node, moved-generation, moved-tree}
use Rattle.journal_tree.proofs.Renaming.{IsTrueRenamed, rename-right}
use Rattle.journal_tree.proofs.Calls.{Anything, TrueChange, TrueFound, TrueMade, getattr-right, setattr-right, lookup-right, access-right, readlink-right, read-right, write-right, create-right, mkdir-right, symlink-right, other-right, remove-right, rmdir-right, link-right, readdir-right, readdirplus-right, fsstat-right, fsinfo-right, pathconf-right, commit-right}

-- What is known of each call
pub record IsDone (call : Call) (c : Caller) (now : Time) (T : Tree) (reply : Reply) (T2 : Tree) : Type 0 where
  pub step : Step (known call c) c now T T2
  pub truth : TellsTruly call reply T T2
  pub refusal : is_refusal reply ≡ true → T2 ≡ T

-- an answer is what was shown of its outcome
of : (R : Known) (c : Caller) (now : Time) (T : Tree) {A : Type 0} (G : A → Tree → Type 0) (o : Outcome A) (r : Result A Status) (T2 : Tree) → (r, T2) ≡ o → IsRight R c now T G o → IsRight R c now T G (r, T2)
of R c now T {A} G o r T2 is right = subst (λ (o : Outcome A). IsRight R c now T G o) (sym is) right

pub op-done : (call : Call) (c : Caller) (now : Time) (T T2 : Tree) (reply : Reply) → HasTree T → Op call c now T reply T2 → IsDone call c now T reply T2
op-done _ c now T T2 _ tree (answers_getattr h _ _ _ _ r is) =
    let right = of (known (Call.getattr h) c) c now T Anything _ r T2 is (getattr-right _ c now T h) in record { step = right.step; truth = tt; refusal = right.refusal }
op-done _ c now T T2 _ tree (answers_setattr h s guard _ _ _ _ (Ok a) is) =
    let right = of (known (Call.setattr h s guard) c) c now T (TrueChange T h.number) _ (Ok a) T2 is (setattr-right _ c now T h s guard (λ r. r.0)) in record { step = right.step; truth = right.given a refl; refusal = right.refusal }
op-done _ c now T T2 _ tree (answers_setattr h s guard _ _ _ _ (Err e) is) =
    let right = of (known (Call.setattr h s guard) c) c now T (TrueChange T h.number) _ (Err e) T2 is (setattr-right _ c now T h s guard (λ r. r.0)) in record { step = right.step; truth = tt; refusal = right.refusal }
op-done _ c now T T2 _ tree (answers_lookup h name _ _ _ _ (Ok a) is) =
    let right = of (known (Call.lookup h name) c) c now T (TrueFound h.number) _ (Ok a) T2 is (lookup-right _ c now T h name) in record { step = right.step; truth = right.given a refl; refusal = right.refusal }
op-done _ c now T T2 _ tree (answers_lookup h name _ _ _ _ (Err e) is) =
    let right = of (known (Call.lookup h name) c) c now T (TrueFound h.number) _ (Err e) T2 is (lookup-right _ c now T h name) in record { step = right.step; truth = tt; refusal = right.refusal }
op-done _ c now T T2 _ tree (answers_access h asked _ _ _ _ r is) =
    let right = of (known (Call.access h asked) c) c now T Anything _ r T2 is (access-right _ c now T h asked) in record { step = right.step; truth = tt; refusal = right.refusal }
op-done _ c now T T2 _ tree (answers_readlink h _ _ _ _ r is) =
    let right = of (known (Call.readlink h) c) c now T Anything _ r T2 is (readlink-right _ c now T h) in record { step = right.step; truth = tt; refusal = right.refusal }
op-done _ c now T T2 _ tree (answers_read h offset count _ _ _ _ r is) =
    let right = of (known (Call.read h offset count) c) c now T Anything _ r T2 is (read-right _ c now T h offset count) in record { step = right.step; truth = tt; refusal = right.refusal }
op-done _ c now T T2 _ tree (answers_write h offset count bs room _ _ _ _ (Ok a) is) =
    let right = of (known (Call.write h offset count bs) c) c now T (TrueChange T h.number) _ (Ok a) T2 is (write-right _ c now T h room offset count bs) in record { step = right.step; truth = right.given a refl; refusal = right.refusal }
op-done _ c now T T2 _ tree (answers_write h offset count bs room _ _ _ _ (Err e) is) =
    let right = of (known (Call.write h offset count bs) c) c now T (TrueChange T h.number) _ (Err e) T2 is (write-right _ c now T h room offset count bs) in record { step = right.step; truth = tt; refusal = right.refusal }
op-done _ c now T T2 _ tree (answers_create h name how room _ _ _ _ (Ok a) take is) =
    let right = of (known (Call.create h name how) c) c now T (TrueMade T h.number) _ (Ok a) T2 is (create-right _ c now T h name how room refl (λ r. r.0) (λ r. r.1) take) in record { step = right.step; truth = right.given a refl; refusal = right.refusal }
op-done _ c now T T2 _ tree (answers_create h name how room _ _ _ _ (Err e) take is) =
    let right = of (known (Call.create h name how) c) c now T (TrueMade T h.number) _ (Err e) T2 is (create-right _ c now T h name how room refl (λ r. r.0) (λ r. r.1) take) in record { step = right.step; truth = tt; refusal = right.refusal }
op-done _ c now T T2 _ tree (answers_mkdir h name s room _ _ _ _ (Ok a) take is) =
    let right = of (known (Call.mkdir h name s) c) c now T (TrueMade T h.number) _ (Ok a) T2 is (mkdir-right _ c now T h name s room refl (λ r. r.0) (λ r. r.1) take) in record { step = right.step; truth = right.given a refl; refusal = right.refusal }
op-done _ c now T T2 _ tree (answers_mkdir h name s room _ _ _ _ (Err e) take is) =
    let right = of (known (Call.mkdir h name s) c) c now T (TrueMade T h.number) _ (Err e) T2 is (mkdir-right _ c now T h name s room refl (λ r. r.0) (λ r. r.1) take) in record { step = right.step; truth = tt; refusal = right.refusal }
op-done _ c now T T2 _ tree (answers_symlink h name s text room _ _ _ _ (Ok a) take is) =
    let right = of (known (Call.symlink h name s text) c) c now T (TrueMade T h.number) _ (Ok a) T2 is (symlink-right _ c now T h name s text room refl (λ r. r.0) (λ r. r.1) take) in record { step = right.step; truth = right.given a refl; refusal = right.refusal }
op-done _ c now T T2 _ tree (answers_symlink h name s text room _ _ _ _ (Err e) take is) =
    let right = of (known (Call.symlink h name s text) c) c now T (TrueMade T h.number) _ (Err e) T2 is (symlink-right _ c now T h name s text room refl (λ r. r.0) (λ r. r.1) take) in record { step = right.step; truth = tt; refusal = right.refusal }
op-done _ c now T T2 _ tree (answers_mknod h name _ _ _ _ r is) =
    let right = of (known (Call.mknod h name) c) c now T Anything _ r T2 is (other-right _ c now T h name) in record { step = right.step; truth = tt; refusal = right.refusal }
op-done _ c now T T2 _ tree (answers_remove h name _ _ _ _ (Ok a) is) =
    let right = of (known (Call.remove h name) c) c now T (TrueChange T h.number) _ (Ok a) T2 is (remove-right _ c now T h name tree) in record { step = right.step; truth = right.given a refl; refusal = right.refusal }
op-done _ c now T T2 _ tree (answers_remove h name _ _ _ _ (Err e) is) =
    let right = of (known (Call.remove h name) c) c now T (TrueChange T h.number) _ (Err e) T2 is (remove-right _ c now T h name tree) in record { step = right.step; truth = tt; refusal = right.refusal }
op-done _ c now T T2 _ tree (answers_rmdir h name _ _ _ _ (Ok a) is) =
    let right = of (known (Call.rmdir h name) c) c now T (TrueChange T h.number) _ (Ok a) T2 is (rmdir-right _ c now T h name tree) in record { step = right.step; truth = right.given a refl; refusal = right.refusal }
op-done _ c now T T2 _ tree (answers_rmdir h name _ _ _ _ (Err e) is) =
    let right = of (known (Call.rmdir h name) c) c now T (TrueChange T h.number) _ (Err e) T2 is (rmdir-right _ c now T h name tree) in record { step = right.step; truth = tt; refusal = right.refusal }
op-done _ c now T T2 _ tree (answers_rename h name k new_name below place _ _ _ _ (Ok a) take tells is) =
    let right = of (known (Call.rename h name k new_name) c) c now T (IsTrueRenamed T h.number name k.number new_name) _ (Ok a) T2 is (rename-right _ c now T h name k new_name below place tree take tells) in
    record { step = right.step; truth = ((right.given a refl).source, (right.given a refl).goal); refusal = right.refusal }
op-done _ c now T T2 _ tree (answers_rename h name k new_name below place _ _ _ _ (Err e) take tells is) =
    let right = of (known (Call.rename h name k new_name) c) c now T (IsTrueRenamed T h.number name k.number new_name) _ (Err e) T2 is (rename-right _ c now T h name k new_name below place tree take tells) in
    record { step = right.step; truth = tt; refusal = right.refusal }
op-done _ c now T T2 _ tree (answers_link h k name _ _ _ _ r is) =
    let right = of (known (Call.link h k name) c) c now T Anything _ r T2 is (link-right _ c now T h k name) in record { step = right.step; truth = tt; refusal = right.refusal }
op-done _ c now T T2 _ tree (answers_readdir h cookie most _ _ _ _ r is) =
    let right = of (known (Call.readdir h cookie most) c) c now T Anything _ r T2 is (readdir-right _ c now T h cookie most) in record { step = right.step; truth = tt; refusal = right.refusal }
op-done _ c now T T2 _ tree (answers_readdirplus h cookie names most _ _ _ _ r is) =
    let right = of (known (Call.readdirplus h cookie names most) c) c now T Anything _ r T2 is (readdirplus-right _ c now T h cookie names most) in record { step = right.step; truth = tt; refusal = right.refusal }
op-done _ c now T T2 _ tree (answers_fsstat h free _ _ _ _ r few is) =
    let right = of (known (Call.fsstat h) c) c now T Anything _ r T2 is (fsstat-right _ c now T h free) in record { step = right.step; truth = tt; refusal = right.refusal }
op-done _ c now T T2 _ tree (answers_fsinfo h _ _ _ _ r is) =
    let right = of (known (Call.fsinfo h) c) c now T Anything _ r T2 is (fsinfo-right _ c now T h) in record { step = right.step; truth = tt; refusal = right.refusal }
op-done _ c now T T2 _ tree (answers_pathconf h _ _ _ _ r is) =
    let right = of (known (Call.pathconf h) c) c now T Anything _ r T2 is (pathconf-right _ c now T h) in record { step = right.step; truth = tt; refusal = right.refusal }
op-done _ c now T T2 _ tree (answers_commit h _ _ _ _ r is) =
    let right = of (known (Call.commit h) c) c now T Anything _ r T2 is (commit-right _ c now T h) in record { step = right.step; truth = tt; refusal = right.refusal }

pub replies-are-true : RepliesAreTrue
replies-are-true call c now T T2 reply tree op = (op-done call c now T T2 reply tree op).truth

pub renames-whole : RenamesWhole
renames-whole h k name new_name c now T T2 a tree (answers_rename _ _ _ _ below place _ _ _ _ _ take tells is) =
    let right = of (known (Call.rename h name k new_name) c) c now T (IsTrueRenamed T h.number name k.number new_name) _ (Ok a) T2 is (rename-right _ c now T h name k new_name below place tree take tells) in
    (right.given a refl).whole

pub refusals-change-nothing : RefusalsChangeNothing
refusals-change-nothing call c now T T2 reply tree op refused = (op-done call c now T T2 reply tree op).refusal refused

-- ── the rule ──

module _ (R : Known) (c : Caller) (now : Time) where
  pub step-keeps : (T T2 : Tree) → HasTree T → Step R c now T T2 → HasTree T2
  step-keeps T _ tree stays = tree
  step-keeps T _ tree (sets n x y is change) = HasTree-same T n (Some y) tree (ap (option_map stem_of) is ∙ ap Some (λ i. record { home = sym change.home i; places = sym change.places i }))
  step-keeps T _ tree (plants d x room y p) = HasTree-plant T d x room.number y now tree p.is p.kind p.directory p.room.some p.room.low p.room.free (record {
    name = λ i z other at directory named. find-none T d y.home.name i z p.free (low T i z tree at) at (directory ∙ p.directory) named;
    place = λ i z other at directory placed. find_place-none T d room.place i z p.room.empty (low T i z tree at) at (directory ∙ p.directory) (placed ∙ p.place);
  })
  step-keeps T _ tree (cuts d n x y it) = HasTree-touch (with_node T n None) d now (HasTree-cut T n tree (not_root T n d x y tree it.at it.home it.is) it.empty)
  step-keeps T _ tree (moves m n z place W it) = moved-tree c T m n z place W now it

pub keeps-trees : KeepsTrees
keeps-trees call c now T T2 reply tree op = step-keeps (known call c) c now T T2 tree (op-done call c now T T2 reply tree op).step

-- ── the bounds ──

-- a slot that fits in place of one
fit_slot : (T : Tree) (n : ℕ) (s : Slot) → HasFit T → ((x : Node) → s.node ≡ Some x → IsFit x × (1 ≤ s.generation)) → s.generation ≤ LAST_GENERATION → HasFit (with_slot T n s)
fit_slot T n s fit new last = record {
  nodes = λ i x is. by_nodes i x is (cases_eq i n);
  born = λ i x is. by_born i x is (cases_eq i n);
  young = λ i. by_young i (cases_eq i n);
}
  where
    here : (i : ℕ) → i ≡ n → (with_slot T n s).at i ≡ s
    here i e = rw (eq-eqb i n e) refl

    by_nodes : (i : ℕ) (x : Node) → ((with_slot T n s).at i).node ≡ Some x → (i ≡ n) ⊎ (i ≡ n → ⊥) → IsFit x
    by_nodes i x is (inl same) = (new x (sym (ap (λ (s : Slot). s.node) (here i same)) ∙ is)).0
    by_nodes i x is (inr other) = fit.nodes i x (sym (ap (λ (s : Slot). s.node) (at_other T n i s other)) ∙ is)

    by_born : (i : ℕ) (x : Node) → ((with_slot T n s).at i).node ≡ Some x → (i ≡ n) ⊎ (i ≡ n → ⊥) → 1 ≤ ((with_slot T n s).at i).generation
    by_born i x is (inl same) = let e = here i same in let h = (new x (sym (ap (λ (s : Slot). s.node) e) ∙ is)).1 in subst (λ (t : Slot). 1 ≤ t.generation) (sym e) h
    by_born i x is (inr other) = let e = at_other T n i s other in subst (λ (t : Slot). 1 ≤ t.generation) (sym e) (fit.born i x (sym (ap (λ (s : Slot). s.node) e) ∙ is))

    by_young : (i : ℕ) → (i ≡ n) ⊎ (i ≡ n → ⊥) → ((with_slot T n s).at i).generation ≤ LAST_GENERATION
    by_young i (inl same) = subst (λ (t : Slot). t.generation ≤ LAST_GENERATION) (sym (here i same)) last
    by_young i (inr other) = subst (λ (t : Slot). t.generation ≤ LAST_GENERATION) (sym (at_other T n i s other)) (fit.young i)

-- another node of a number that has one
fit_node : (T : Tree) (n : ℕ) (x y : Node) → HasFit T → (T.at n).node ≡ Some x → IsFit y → HasFit (with_node T n (Some y))
fit_node T n x y fit is new = fit_slot T n _ fit (λ z e. (let q : y ≡ z = cc in subst IsFit q new, fit.born n x is)) (fit.young n)

fit_none : (T : Tree) (n : ℕ) → HasFit T → HasFit (with_node T n None)
fit_none T n fit = fit_slot T n _ fit (λ z e. absurd (cc (e))) (fit.young n)

-- a change of a node that fits where it did
fit_map : (T : Tree) (n : ℕ) (f : Node → Node) → HasFit T → ((x : Node) → IsFit x → IsFit (f x)) → HasFit (with_node T n (option_map f (T.at n).node))
fit_map T n f fit keeps = by (T.at n).node refl
  where
    by : (o : Option Node) → (T.at n).node ≡ o → HasFit (with_node T n (option_map f o))
    by None is = fit_none T n fit
    by (Some x) is = fit_node T n x (f x) fit is (keeps x (fit.nodes n x is))

touched-fits : (now : Time) (x : Node) → IsTime now → IsFit x → IsFit (touched now x)
touched-fits now x moment f =
    let time = names-fits x.attributes now f.ctime moment in
    record { home = f.home; place = f.place; body = f.body; mode = f.mode; owner = f.owner; group = f.group; mtime = time; ctime = time; verifier = tt }

opened-fits : (place : ℕ) (now : Time) (x : Node) → place < MOST_PLACES → IsTime now → IsFit x → IsFit (opened place now x)
opened-fits place now x low moment f =
    let time = names-fits x.attributes now f.ctime moment in
    record { home = f.home; place = f.place; body = grown-body-fits place x.body low f.body; mode = f.mode; owner = f.owner; group = f.group; mtime = time; ctime = time; verifier = tt }

rehung-fits : (home : Home) (now : Time) (z : Node) → IsFitHome home → home.place < MOST_PLACES → IsTime now → IsFit z → IsFit (rehung home now z)
rehung-fits home now z named low moment f =
    let time = change-fits z.attributes.ctime now f.ctime moment in
    record { home = named; place = low; body = f.body; mode = f.mode; owner = f.owner; group = f.group; mtime = f.mtime; ctime = time; verifier = tt }

-- a name that goes from one directory to another
fit_names : (W : Tree) (d e place : ℕ) (now : Time) → HasFit W → IsTime now → place < MOST_PLACES → HasFit (names_moved W d e place now)
fit_names W d e place now fit moment low = by (d == e)
  where
    source : HasFit (touch W d now)
    source = fit_map W d (touched now) fit (λ x f. touched-fits now x moment f)

    by : (b : Bool) → HasFit (if b then touch_place W d place now else touch_place (touch W d now) e place now)
    by true = fit_map W d (opened place now) fit (λ x f. opened-fits place now x low moment f)
    by false = fit_map (touch W d now) e (opened place now) source (λ x f. opened-fits place now x low moment f)

-- what is taken away leaves the others as they were
fit_without : (c : Caller) (T : Tree) (m : Move) (W : Tree) → IsWithout c T m W → HasFit T → HasFit W
fit_without c T m W without fit = record {
  nodes = λ n x is. fit.nodes n x (without.kept n x is);
  born = λ n x is. (let b = fit.born n x (without.kept n x is) in let g = without.generation n in omega (arith, b, g));
  young = λ n. (let y = fit.young n in let g = without.generation n in omega (arith, y, g));
}

module _ (R : Known) (c : Caller) (now : Time) where
  pub step-fits : (T T2 : Tree) → R.bounds → IsTime now → HasFit T → Step R c now T T2 → HasFit T2
  step-fits T _ r moment fit stays = fit
  step-fits T _ r moment fit (sets n x y is change) = fit_node T n x y fit is (change.fit r moment (fit.nodes n x is))
  step-fits T _ r moment fit (plants d x room y p) = fit_slot (touch_place T d y.home.place now) room.number _ opened_fit
      (λ z e. (let q : y ≡ z = cc in subst IsFit q (p.fit r moment (fit.nodes d x p.is)), omega arith))
      (let young = p.room.young in omega (arith, same, young))
    where
      opened_fit : HasFit (touch_place T d y.home.place now)
      opened_fit = fit_map T d (opened y.home.place now) fit (λ x f. opened-fits y.home.place now x (let within = p.room.within in let at = p.place in omega (arith, within, at)) moment f)

      same : ((touch_place T d y.home.place now).at room.number).generation ≡ (T.at room.number).generation
      same = same_generation T d room.number _
  step-fits T _ r moment fit (cuts d n x y it) = fit_map (with_node T n None) d (touched now) (fit_none T n fit) (λ x f. touched-fits now x moment f)
  step-fits T _ r moment fit (moves m n z place W it) = fit_slot (names_moved W m.d m.e place now) n _ names_fit (λ x e. new x e) (names_fit.young n)
    where
      low : place < MOST_PLACES
      low = it.within fit

      names_fit : HasFit (names_moved W m.d m.e place now)
      names_fit = fit_names W m.d m.e place now (fit_without c T m W it.without fit) moment low

      born : 1 ≤ ((names_moved W m.d m.e place now).at n).generation
      born =
          let g = moved-generation c T m n z place W now it n in
          let s = own_slot (names_moved W m.d m.e place now) n (record { generation = ((names_moved W m.d m.e place now).at n).generation; node = Some (moved_node m place now z) }) in
          let q = ap (λ (s : Slot). s.generation) s in
          let b = fit.born n z (it.without.kept n z it.at) in
          omega (arith, g, q, b)

      new : (x : Node) → Some (moved_node m place now z) ≡ Some x → IsFit x × (1 ≤ ((names_moved W m.d m.e place now).at n).generation)
      new x e = (
        let q : moved_node m place now z ≡ x = cc in subst IsFit q (rehung-fits (new_home m z place) now z (inr it.name) home_low moment was),
        born,
      )
        where
          was : IsFit z
          was = fit.nodes n z (it.without.kept n z it.at)

          home_low : (new_home m z place).place < MOST_PLACES
          home_low = by (home-place m z place)
            where
              by : ((m.d ≡ m.e) × ((new_home m z place).place ≡ z.home.place)) ⊎ ((m.d ≢ m.e) × ((new_home m z place).place ≡ place)) → (new_home m z place).place < MOST_PLACES
              by (inl own) = subst (λ (p : ℕ). p < MOST_PLACES) (sym own.1) was.place
              by (inr other) = subst (λ (p : ℕ). p < MOST_PLACES) (sym other.1) low

pub keeps-fit : KeepsFit
keeps-fit call c now T T2 reply callable caller moment tree fit op = step-fits (known call c) c now T T2 (callable, caller) moment fit (op-done call c now T T2 reply tree op).step
