-- ctime grows with each change, over any calls.
use Rattle.std.proofs.Common.{◌≡◌, ◌≢◌, ℕ, ◌<◌, ◌≤◌, Option, Some, None, refl, sym, ap, subst, arith, ◌⊎◌, inl, inr, ◌∙◌}
use Rattle.journal_tree.specs.declared.time.Time.{Time}
use Rattle.journal_tree.specs.declared.reply.Attributes.{Attributes}
use Rattle.journal_tree.specs.Trees.{Node, Tree}
use Rattle.journal_tree.specs.Times.{IsBefore, LAST_TIME, IsTime, time_of_change, time_of_names}
use Rattle.journal_tree.specs.declared.caller.Caller.{Caller}
use Rattle.journal_tree.specs.Rule.{HasTree}
use Rattle.journal_tree.specs.Changes.{with_times}
use Rattle.journal_tree.specs.Fit.{HasFit}
use Rattle.journal_tree.specs.Runs.{Answers, Run, IsOneNode, HasSameNames}
use Rattle.journal_tree.specs.Runs.Run.{done, next}
use Rattle.journal_tree.specs.Laws.{CtimeGrows, MtimeMoves, ChangesMoveCtime, NamesMoveCtime, NamesMoveMtime, ChangesTakeVerifiers}
use Rattle.journal_tree.proofs.Changing.{one}
use Rattle.journal_tree.proofs.Moments.{before-then, change-after, names-after, names-mtime}
use Rattle.journal_tree.proofs.Steps.{Known, known, Step}
use Rattle.journal_tree.proofs.Keeping.{op-done, step-keeps, step-fits}
use Rattle.journal_tree.proofs.Fates.{Fate, fate, generations}
use Rattle.journal_tree.proofs.Fates.Fate.{same, set, names, hung}

-- ── what grows ──

grows-then : (x w y : Node) → CtimeGrows x w → CtimeGrows w y → CtimeGrows x y
grows-then x w y (inl a) (inl b) = inl (before-then x.attributes.ctime w.attributes.ctime y.attributes.ctime a b)
grows-then x w y (inl a) (inr b) = inl (subst (IsBefore x.attributes.ctime) (b.0 ∙ sym b.1) a)
grows-then x w y (inr a) (inl b) = inl (subst (λ (t : Time). IsBefore t y.attributes.ctime) (a.1 ∙ sym a.0) b)
grows-then x w y (inr a) (inr b) = inr (a.0, b.1)

-- What is known of a number from one tree to a later one
record IsLater (T T2 : Tree) (n : ℕ) : Type 0 where
  generation : (T.at n).generation ≤ (T2.at n).generation
  fresh : (y : Node) → (T.at n).node ≡ None → (T2.at n).node ≡ Some y → (T.at n).generation < (T2.at n).generation
  keeps : (x y : Node) → IsOneNode T T2 n x y → (x ≡ y) ⊎ CtimeGrows x y
  names : (x y : Node) → IsOneNode T T2 n x y → HasSameNames T T2 n ⊎ CtimeGrows x y
  verifier : (x y : Node) → IsOneNode T T2 n x y → (x ≡ y) ⊎ (y.attributes.verifier ≡ None)

later-same : (T : Tree) (n : ℕ) → IsLater T T n
later-same T n = record {
  generation = omega arith;
  fresh = λ y none at. absurd (cc (sym none ∙ at));
  keeps = λ x y it. inl (one (T.at n).node x y it.before it.after);
  names = λ x y it. inl (λ name. refl);
  verifier = λ x y it. inl (one (T.at n).node x y it.before it.after);
}

-- a node of one generation at both ends was there between
between : (T U V : Tree) (n : ℕ) (x y : Node) → IsLater T U n → IsLater U V n → IsOneNode T V n x y → (w : Node) × IsOneNode T U n x w × IsOneNode U V n w y
between T U V n x y a b it = by (U.at n).node refl
  where
    by : (o : Option Node) → (U.at n).node ≡ o → (w : Node) × IsOneNode T U n x w × IsOneNode U V n w y
    by None none = let f = b.fresh y none it.after in let g = a.generation in let e = it.generation in absurd (omega (arith, f, g, e))
    by (Some w) is =
        let g = a.generation in
        let h = b.generation in
        let e = it.generation in
        (w, record { before = it.before; after = is; generation = omega (arith, g, h, e) }, record { before = is; after = it.after; generation = omega (arith, g, h, e) })

later-then : (T U V : Tree) (n : ℕ) → IsLater T U n → IsLater U V n → IsLater T V n
later-then T U V n a b = record {
  generation = (let g = a.generation in let h = b.generation in omega (arith, g, h));
  fresh = λ y none at. fresh y none at (U.at n).node refl;
  keeps = λ x y it. (let m = between T U V n x y a b it in both x m.0 y (a.keeps x m.0 m.1) (b.keeps m.0 y m.2));
  names = λ x y it. (let m = between T U V n x y a b it in all x m.0 y (a.names x m.0 m.1) (a.keeps x m.0 m.1) (b.names m.0 y m.2) (b.keeps m.0 y m.2));
  verifier = λ x y it. (let m = between T U V n x y a b it in taken x m.0 y (a.verifier x m.0 m.1) (b.verifier m.0 y m.2));
}
  where
    fresh : (y : Node) → (T.at n).node ≡ None → (V.at n).node ≡ Some y → (o : Option Node) → (U.at n).node ≡ o → (T.at n).generation < (V.at n).generation
    fresh y none at None is = let f = b.fresh y is at in let g = a.generation in omega (arith, f, g)
    fresh y none at (Some w) is = let f = a.fresh w none is in let h = b.generation in omega (arith, f, h)

    both : (x w y : Node) → (x ≡ w) ⊎ CtimeGrows x w → (w ≡ y) ⊎ CtimeGrows w y → (x ≡ y) ⊎ CtimeGrows x y
    both x w y (inl e) (inl f) = inl (e ∙ f)
    both x w y (inl e) (inr g) = inr (subst (λ (x : Node). CtimeGrows x y) (sym e) g)
    both x w y (inr g) (inl f) = inr (subst (CtimeGrows x) f g)
    both x w y (inr g) (inr h) = inr (grows-then x w y g h)

    after : (x w y : Node) → CtimeGrows x w → (w ≡ y) ⊎ CtimeGrows w y → CtimeGrows x y
    after x w y g (inl f) = subst (CtimeGrows x) f g
    after x w y g (inr h) = grows-then x w y g h

    all : (x w y : Node) → HasSameNames T U n ⊎ CtimeGrows x w → (x ≡ w) ⊎ CtimeGrows x w → HasSameNames U V n ⊎ CtimeGrows w y → (w ≡ y) ⊎ CtimeGrows w y → HasSameNames T V n ⊎ CtimeGrows x y
    all x w y (inr g) _ _ k = inr (after x w y g k)
    all x w y (inl s) (inr g) _ k = inr (after x w y g k)
    all x w y (inl s) (inl e) (inl t) k = inl (λ name. s name ∙ t name)
    all x w y (inl s) (inl e) (inr h) k = inr (subst (λ (x : Node). CtimeGrows x y) (sym e) h)

    taken : (x w y : Node) → (x ≡ w) ⊎ (w.attributes.verifier ≡ None) → (w ≡ y) ⊎ (y.attributes.verifier ≡ None) → (x ≡ y) ⊎ (y.attributes.verifier ≡ None)
    taken x w y _ (inr g) = inr g
    taken x w y (inl e) (inl f) = inl (e ∙ f)
    taken x w y (inr g) (inl f) = inr (ap (λ (x : Node). x.attributes.verifier) (sym f) ∙ g)

-- ── one call ──

grown-by : (x y : Node) (t : Time) → y.attributes.ctime ≡ t → IsBefore x.attributes.ctime t ⊎ ((x.attributes.ctime ≡ LAST_TIME) × (t ≡ LAST_TIME)) → CtimeGrows x y
grown-by x y t e (inl after) = inl (subst (IsBefore x.attributes.ctime) (sym e) after)
grown-by x y t e (inr end) = inr (end.0, e ∙ end.1)

module _ (R : Known) (c : Caller) (now : Time) (T T2 : Tree) (n : ℕ) (moment : IsTime now) (fit : HasFit T) where
  fate-keeps : (x y : Node) → IsOneNode T T2 n x y → Fate R c now T T2 n x y → (x ≡ y) ⊎ CtimeGrows x y
  fate-keeps x y it (same e s) = inl e
  fate-keeps x y it (set change s) = inr (grown-by x y (time_of_change x.attributes.ctime now) change.ctime (change-after x.attributes.ctime now (fit.nodes n x it.before).ctime moment))
  fate-keeps x y it (names e home may) = inr (grown-by x y _ (ap (λ (a : Attributes). a.ctime) e) (names-after x.attributes now (fit.nodes n x it.before).ctime moment))
  fate-keeps x y it (hung e b move s) = inr (grown-by x y (time_of_change x.attributes.ctime now) (ap (λ (a : Attributes). a.ctime) e) (change-after x.attributes.ctime now (fit.nodes n x it.before).ctime moment))

  fate-names : (x y : Node) → IsOneNode T T2 n x y → Fate R c now T T2 n x y → HasSameNames T T2 n ⊎ CtimeGrows x y
  fate-names x y it (same e s) = inl s
  fate-names x y it (set change s) = inl s
  fate-names x y it (names e home may) = inr (grown-by x y _ (ap (λ (a : Attributes). a.ctime) e) (names-after x.attributes now (fit.nodes n x it.before).ctime moment))
  fate-names x y it (hung e b move s) = inl s

  fate-mtime : (x y : Node) → IsOneNode T T2 n x y → Fate R c now T T2 n x y → HasSameNames T T2 n ⊎ MtimeMoves x y
  fate-mtime x y it (same e s) = inl s
  fate-mtime x y it (set change s) = inl s
  fate-mtime x y it (hung e b move s) = inl s
  fate-mtime x y it (names e home may) = inr (by (names-mtime x.attributes now (fit.nodes n x it.before).ctime moment))
    where
      by : (x.attributes.mtime ≢ (with_times x.attributes (time_of_names x.attributes now)).mtime) ⊎ (time_of_names x.attributes now ≡ LAST_TIME) → MtimeMoves x y
      by (inl other) = inl (λ same. other (same ∙ ap (λ (a : Attributes). a.mtime) e))
      by (inr end) = inr (ap (λ (a : Attributes). a.ctime) e ∙ end)

  -- what was changed has no verifier
  fate-verifier : (x y : Node) → IsOneNode T T2 n x y → Fate R c now T T2 n x y → (x ≡ y) ⊎ (y.attributes.verifier ≡ None)
  fate-verifier x y it (same e s) = inl e
  fate-verifier x y it (set change s) = inr change.verifier
  fate-verifier x y it (names e home may) = inr (ap (λ (a : Attributes). a.verifier) e)
  fate-verifier x y it (hung e b move s) = inr (ap (λ (a : Attributes). a.verifier) e)

-- a call leads to a later tree, of which the same holds
call-later : (T U : Tree) → HasTree T → HasFit T → Answers T U → HasTree U × HasFit U × ((n : ℕ) → IsLater T U n)
call-later T U tree fit a = (
  step-keeps R c now T U tree step,
  step-fits R c now T U (a.is_callable, a.is_caller) a.is_time fit step,
  λ n. (let g = generations R c now T tree U step n in record {
    generation = g.0;
    fresh = g.1;
    keeps = λ x y it. fate-keeps R c now T U n a.is_time fit x y it (fate R c now T tree U step n x y it);
    names = λ x y it. fate-names R c now T U n a.is_time fit x y it (fate R c now T tree U step n x y it);
    verifier = λ x y it. fate-verifier R c now T U n a.is_time fit x y it (fate R c now T tree U step n x y it);
  }),
)
  where
    R : Known
    R = known a.call a.caller

    c : Caller
    c = a.caller

    now : Time
    now = a.now

    step : Step (known a.call a.caller) a.caller a.now T U
    step = (op-done a.call a.caller a.now T U a.reply tree a.op).step

run-later : (T V : Tree) → HasTree T → HasFit T → Run T V → (n : ℕ) → IsLater T V n
run-later T _ tree fit (done _) n = later-same T n
run-later T V tree fit (next _ U _ a rest) n =
    let l = call-later T U tree fit a in
    later-then T U V n (l.2 n) (run-later U V l.0 l.1 rest n)

pub changes-move-ctime : ChangesMoveCtime
changes-move-ctime T T2 n x y tree fit run it = (run-later T T2 tree fit run n).keeps x y it

pub changes-take-verifiers : ChangesTakeVerifiers
changes-take-verifiers T T2 n x y tree fit run it = (run-later T T2 tree fit run n).verifier x y it

pub names-move-ctime : NamesMoveCtime
names-move-ctime T T2 n x y tree fit run it = (run-later T T2 tree fit run n).names x y it

pub names-move-mtime : NamesMoveMtime
names-move-mtime call c now T T2 reply n x y tree fit moment op it =
    fate-mtime (known call c) c now T T2 n moment fit x y it
    (fate (known call c) c now T tree T2 (op-done call c now T T2 reply tree op).step n x y it)
