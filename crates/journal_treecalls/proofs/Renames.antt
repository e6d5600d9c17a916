-- RENAME.
use Rattle.std.proofs.Common.{◌≡◌, ℕ, Bool, false, List, [], length, Option, Some, None, Ok, Err, refl, sym, ap, subst, ◌⊎◌, inl, inr, ◌∙◌}
use Rattle.std.specs.Prelude.{Result, Decides, ◌≤◌, option_map}
use Rattle.journal_tree.specs.declared.limits.TheConstants.{MOST_NAME}
use Rattle.journal_tree.specs.declared.time.Time.{Time}
use Rattle.journal_tree.specs.declared.reply.Handle.{Handle}
use Rattle.journal_tree.specs.declared.reply.Renamed.{Renamed}
use Rattle.journal_tree.specs.declared.caller.Caller.{Caller}
use Rattle.journal_tree.specs.declared.status.Status.{Status}
use Rattle.journal_tree.specs.declared.status.Status.TheVariants.{Invalid, NoEntry, Stale}
use Rattle.journal_tree.specs.declared.name.NameKind.TheVariants.{Name}
use Rattle.journal_tree.specs.Times.{IsTime}
use Rattle.journal_tree.specs.Trees.{Node, is_named, find}
use Rattle.journal_tree.specs.Rule.{stem_of, stems, IsBelow}
use Rattle.journal_tree.specs.Walks.{meets}
use Rattle.journal_tree.specs.Calls.{Outcome, refused, target, name_kind, on_node, in_searched, with_name, on_found}
use Rattle.journal_tree.specs.Calls.Target.{gone}
use Rattle.journal_tree.specs.Renames.{move_node, rename_case}
use Rattle.journal_tree.specs.Op.{MayTakePlace, TellsBelow, Op}
use Rattle.journal_tree.specs.Op.Call.{rename}
use Rattle.journal_tree.specs.Op.Reply.{renamed}
use Rattle.journal_tree.specs.Op.Op.{answers_rename}
use Rattle.journal_tree.specs.Fit.{IsCaller}
use Rattle.journal_tree.proofs.Finding.{found_node}
use Rattle.journal_tree.proofs.Walk.{walk-decides}
use Rattle.journal_treestore.specs.Views.{View, node_of, tree_of}
use Rattle.journal_treestore.specs.Sound.{IsSoundView}
use Rattle.journal_treestore.specs.Steps.{Shows}
use Rattle.journal_treestore.proofs.Keeping.{calls-stay-sound}
use Rattle.journal_treecalls.specs.declared.node.Record.{Record}
use Rattle.journal_treecalls.specs.declared.renaming.Side.{Side}
use Rattle.journal_treecalls.specs.declared.renaming.Way.{Way}
use Rattle.journal_treecalls.specs.declared.renaming.Decision.{Decision}
use Rattle.journal_treecalls.specs.declared.renaming.Decision.TheVariants.{Stays, Goes}
use Rattle.journal_treecalls.specs.Disks.{Write, written, Learns, Does}
use Rattle.journal_treecalls.specs.Targets.{held, IsNode, IsTarget, IsSearched, IsDirectoryFor, directory_of}
use Rattle.journal_treecalls.specs.Names.{name_status}
use Rattle.journal_treecalls.specs.Renamings.{or_else, names_status, ways_by, ways_of, IsWayTo, IsWay, AreSides, HasNode, handed, named_case, DecidesName, IsRename, RenamesNamed, Renames}
use Rattle.journal_treecalls.specs.Renamings.IsWayTo.{stale, leads}
use Rattle.journal_treecalls.specs.Renamings.IsWay.{none, begins}
use Rattle.journal_treecalls.specs.Moves.{AreTimesOf, with_done, told_done, Performs}
use Rattle.journal_treecalls.proofs.Learning.{learns-as, learns-then, does-reads}
use Rattle.journal_treecalls.proofs.Learned.{AreSound, directory-for}
use Rattle.journal_treecalls.proofs.Cases.{at-node, at-searched, at-unsearched}
use Rattle.journal_treecalls.proofs.ByName.{is-name, refused-name}
use Rattle.journal_treecalls.proofs.Naming.{name-short}
use Rattle.journal_treecalls.proofs.Arriving.{Arrives, same-tells, arrives, times-are}

-- ── names ──

or-some : (a b : Option Status) (status : Status) → or_else a b ≡ Some status → (a ≡ Some status) ⊎ ((a ≡ None) × (b ≡ Some status))
or-some (Some s) b status is = inl is
or-some None b status is = inr (refl, is)

or-none : (a b : Option Status) → or_else a b ≡ None → (a ≡ None) × (b ≡ None)
or-none (Some s) b is = absurd (cc (is))
or-none None b is = (refl, is)

module _ (name new_name : List ℕ) (on : names_status name new_name ≡ None) where
  pub both-named : (name_kind name ≡ Name) × (name_kind new_name ≡ Name)
  both-named =
      let b = or-none (name_status (name_kind name) Invalid Invalid) (name_status (name_kind new_name) Invalid Invalid) on in
      (is-name (name_kind name) Invalid Invalid b.0, is-name (name_kind new_name) Invalid Invalid b.1)

  pub new-short : length new_name ≤ MOST_NAME
  new-short = name-short new_name both-named.1

-- ── what is told of a directory below, where nobody looked ──

module _ (V : View) (sound : IsSoundView V) (d : ℕ) (name : List ℕ) (e : ℕ) where
  pub told-below : (below : Bool) × TellsBelow (tree_of V) d name e below
  told-below = by (find (tree_of V) d name) refl
    where
      by : (f : Option ℕ) → find (tree_of V) d name ≡ f → (below : Bool) × TellsBelow (tree_of V) d name e below
      by None at = (false, λ n is. absurd (cc (sym at ∙ is)))
      by (Some n) at =
          let f = found_node (is_named d name) (tree_of V) n at in (
            meets (stems (tree_of V)) n V.numbers e,
            λ k is.
                let q : Some n ≡ Some k = sym at ∙ is in
                let same : n ≡ k = cc in
                subst (λ k. Decides (meets (stems (tree_of V)) n V.numbers e) (IsBelow (stems (tree_of V)) k e)) same
                (walk-decides V.numbers (stems (tree_of V)) n e (stem_of f.0) sound.tree (ap (option_map stem_of) f.1)),
          )

-- ── the cases ──

module _ (V : View) (sound : IsSoundView V) (h k : Handle) (c : Caller) (name new_name : List ℕ) (now : Time) where
  -- once both directories are searched
  abbrev rest : Bool → Option ℕ → ℕ → Node → ℕ → Node → Outcome Renamed
  rest below place d x e y = with_name (tree_of V) (name_kind name) Invalid Invalid (with_name (tree_of V) (name_kind new_name) Invalid Invalid (
      on_found (tree_of V) (find (tree_of V) d name) (refused NoEntry (tree_of V)) (move_node c below place now (tree_of V) (record { d = d; x = x; e = e; y = y; name = new_name }))))

  abbrev inner : Bool → Option ℕ → Outcome Renamed
  inner below place = in_searched c (tree_of V) (target (tree_of V) h) (λ d x. in_searched c (tree_of V) (target (tree_of V) k) (λ e y. rest below place d x e y))

  abbrev whole : Bool → Option ℕ → Outcome Renamed
  whole below place = rename_case c below place name new_name now (tree_of V) (target (tree_of V) h) (target (tree_of V) k)

  told : (status : Status) → ((below : Bool) → whole below None ≡ refused status (tree_of V)) → Op (rename h name k new_name) c now (tree_of V) (renamed (Err status)) (tree_of V)
  told status is =
      let b = told-below V sound h.number name k.number in
      answers_rename h name k new_name b.0 None c now (tree_of V) (tree_of V) (Err status) tt b.1 (sym (is b.0))

  pub rename-gone : target (tree_of V) h ≡ gone → Op (rename h name k new_name) c now (tree_of V) (renamed (Err Stale)) (tree_of V)
  rename-gone g = told Stale (λ below. ap (λ t. rename_case c below None name new_name now (tree_of V) t (target (tree_of V) k)) g)

  module _ (s : Record) (source : IsNode V h s) where
    at-source : (below : Bool) (place : Option ℕ) → whole below place ≡ on_node (tree_of V) (target (tree_of V) k) (λ e y. inner below place)
    at-source below place = at-node V h (λ d x. on_node (tree_of V) (target (tree_of V) k) (λ e y. inner below place)) s source

    pub rename-no_goal : target (tree_of V) k ≡ gone → Op (rename h name k new_name) c now (tree_of V) (renamed (Err Stale)) (tree_of V)
    rename-no_goal g = told Stale (λ below. at-source below None
        ∙ ap (λ t. on_node (tree_of V) t (λ e y. in_searched c (tree_of V) (target (tree_of V) h) (λ d x. in_searched c (tree_of V) (target (tree_of V) k) (λ e y. rest below None d x e y)))) g)

    module _ (t : Record) (goal : IsNode V k t) where
      abbrev first : Side
      first = record { number = h.number; inode = s }

      at-both : (below : Bool) (place : Option ℕ) → whole below place ≡ inner below place
      at-both below place = at-source below place ∙ at-node V k (λ e y. inner below place) t goal

      for-source : IsDirectoryFor V c h (directory_of c s)
      for-source = directory-for IsSoundView IsSoundView V c h s source s.head.kind _ refl refl

      for-goal : IsDirectoryFor V c k (directory_of c t)
      for-goal = directory-for IsSoundView IsSoundView V c k t goal t.head.kind _ refl refl

      pub rename-unsearched : (status : Status) → ways_of c (record { number = h.number; inode = s }) (record { number = k.number; inode = t }) ≡ Err status → Op (rename h name k new_name) c now (tree_of V) (renamed (Err status)) (tree_of V)
      rename-unsearched status is = told status (λ below. at-both below None ∙ by below (directory_of c s) (directory_of c t) for-source for-goal is)
        where
          by : (below : Bool) (a b : Result Record Status) → IsDirectoryFor V c h a → IsDirectoryFor V c k b → ways_by h.number a k.number b ≡ Err status → inner below None ≡ refused status (tree_of V)
          by below (Err e) b why _ w = at-unsearched V h (λ d x. in_searched c (tree_of V) (target (tree_of V) k) (λ e y. rest below None d x e y)) c e why ∙ ap (λ s. refused s (tree_of V)) (cc)
          by below (Ok a) (Err e) ok why w =
              at-searched V h (λ d x. in_searched c (tree_of V) (target (tree_of V) k) (λ e y. rest below None d x e y)) c a ok
              ∙ at-unsearched V k (λ e y. rest below None h.number (node_of V (held a)) e y) c e why
              ∙ ap (λ s. refused s (tree_of V)) (cc)
          by below (Ok a) (Ok b) _ _ w = absurd (cc (w))

      -- the way is one between the handles
      abbrev IsBetween : Way → Type 0
      IsBetween w = (w.source.number ≡ h.number) × ((w.goal.number ≡ k.number) × (IsSearched V c h w.source.inode × IsSearched V c k w.goal.inode))

      way-is : (w : Way) → ways_of c (record { number = h.number; inode = s }) (record { number = k.number; inode = t }) ≡ Ok w → IsBetween w
      way-is w is = by (directory_of c s) (directory_of c t) for-source for-goal is
        where
          by : (a b : Result Record Status) → IsDirectoryFor V c h a → IsDirectoryFor V c k b → ways_by h.number a k.number b ≡ Ok w → IsBetween w
          by (Err e) b _ _ w_is = absurd (cc (w_is))
          by (Ok a) (Err e) _ _ w_is = absurd (cc (w_is))
          by (Ok a) (Ok b) x y w_is =
              let q : record { source = record { number = h.number; inode = a }; goal = record { number = k.number; inode = b } } ≡ w = cc in
              subst IsBetween q (refl, (refl, (x, y)))

      module _ (w : Way) (is : ways_of c (record { number = h.number; inode = s }) (record { number = k.number; inode = t }) ≡ Ok w) where
        between : IsBetween w
        between = way-is w is

        pub sides-are : AreSides V w
        sides-are = record {
          source = record { is = ap V.inode between.0 ∙ between.1.1.0.node.is; kind = between.1.1.0.kind };
          goal = record { is = ap V.inode between.1.0 ∙ between.1.1.1.node.is; kind = between.1.1.1.kind };
        }

        at-rest : (below : Bool) (place : Option ℕ) → whole below place
            ≡ with_name (tree_of V) (name_kind name) Invalid Invalid (with_name (tree_of V) (name_kind new_name) Invalid Invalid (named_case V c w name new_name below place now))
        at-rest below place =
            at-both below place
            ∙ at-searched V h (λ d x. in_searched c (tree_of V) (target (tree_of V) k) (λ e y. rest below place d x e y)) c w.source.inode between.1.1.0
            ∙ at-searched V k (λ e y. rest below place h.number (node_of V (held w.source.inode)) e y) c w.goal.inode between.1.1.1
            ∙ (λ i. rest below place (sym between.0 i) (node_of V (held w.source.inode)) (sym between.1.0 i) (node_of V (held w.goal.inode)))

        pub rename-done : (W : View) (reply : Result Renamed Status)
            → IsRename V W w name (λ below place. with_name (tree_of V) (name_kind name) Invalid Invalid (with_name (tree_of V) (name_kind new_name) Invalid Invalid (named_case V c w name new_name below place now))) reply
            → Op (rename h name k new_name) c now (tree_of V) (renamed reply) (tree_of W)
        rename-done W reply r = answers_rename h name k new_name r.below r.place c now (tree_of V) (tree_of W) reply
            (subst (λ d. MayTakePlace (tree_of V) d k.number r.place) between.0 (subst (λ e. MayTakePlace (tree_of V) w.source.number e r.place) between.1.0 r.may))
            (subst (λ d. TellsBelow (tree_of V) d name k.number r.below) between.0 (subst (λ e. TellsBelow (tree_of V) w.source.number name e r.below) between.1.0 r.tells))
            (r.is ∙ sym (at-rest r.below r.place))

-- ── what is learned of the directories ──

pub goal-none : (first old : View → Type 0) (c : Caller) (s : Side) (k : Handle) (found : Option Record) → Learns first old (λ V. IsTarget V k found) → found ≡ None → Learns first old (λ V. IsWayTo V c s k (Err Stale))
goal-none first old c s k found l is = learns-as first old _ _ l (λ V m t. stale (subst (IsTarget V k) is t))

pub goal-some : (first old : View → Type 0) (c : Caller) (s : Side) (k : Handle) (found : Option Record) (t : Record) (way : Result Way Status) → Learns first old (λ V. IsTarget V k found) → found ≡ Some t
    → way ≡ ways_of c s (record { number = k.number; inode = t }) → Learns first old (λ V. IsWayTo V c s k way)
goal-some first old c s k found t way l is tells = learns-as first old _ _ l (λ V m n. leads t way (subst (IsTarget V k) is n) tells)

pub source-none : (first old : View → Type 0) (c : Caller) (h k : Handle) (found : Option Record) → Learns first old (λ V. IsTarget V h found) → found ≡ None → Learns first old (λ V. IsWay V c h k (Err Stale))
source-none first old c h k found l is = learns-as first old _ _ l (λ V m t. none (subst (IsTarget V h) is t))

pub source-some : (first old new : View → Type 0) (c : Caller) (h k : Handle) (found : Option Record) (s : Record) (way : Result Way Status) → Learns first old (λ V. IsTarget V h found) → found ≡ Some s
    → Learns old new (λ V. IsWayTo V c (record { number = h.number; inode = s }) k way) → Learns first new (λ V. IsWay V c h k way)
source-some first old new c h k found s way l is j = learns-then first old new _ _ l j _ (λ V m n to. begins s way (subst (IsTarget V h) is n) to)

-- ── from the decision to the reply ──

sound-shows : (V : View) → IsSoundView V → Shows V (tree_of V)
sound-shows V sound = record { tree = refl; inodes = sound.inodes; hung = sound.hung }

module _ (V : View) (sound : IsSoundView V) (c : Caller) (w : Way) (name new_name : List ℕ) (now : Time) (sides : AreSides V w) where
  abbrev cases : Bool → Option ℕ → Outcome Renamed
  cases below place = named_case V c w name new_name below place now

  -- what was decided was done
  pub named-done : (decision : Decision) → DecidesName V c w name new_name (Ok decision) → (W : View) (reply : Renamed) → (AreTimesOf w decision → W ≡ with_done V w decision new_name now) → (AreTimesOf w decision → reply ≡ told_done w decision now)
      → IsRename V W w name cases (Ok reply)
  named-done Stays decides W reply view tells = let d = decides sides in subst (λ W. IsRename V W w name cases (Ok reply)) (sym (view tt)) (record {
    below = d.below;
    place = None;
    may = tt;
    tells = d.tells;
    is = ap (λ r. (Ok r, tree_of V)) (tells tt ∙ same-tells V sound w sides now new_name) ∙ sym (d.is now);
    form = record { numbers = refl; first_data = refl; data_blocks = refl };
    shows = sound-shows V sound;
  })
  named-done (Goes hit to) decides W reply view tells =
      let d = decides sides in
      let node : HasNode V w name hit = d.is.0 in
      let times = times-are V sound w hit name new_name now node in
      let a : Arrives V W w hit to name new_name now = arrives V sound w hit name new_name now node W to d.is.1.0 (view times) in
      record {
        below = d.below;
        place = handed hit to;
        may = a.may;
        tells = d.tells;
        is = (λ i. (Ok ((tells times ∙ a.tells) i), a.shows.tree i)) ∙ sym (d.is.1.1 now);
        form = a.form;
        shows = record { tree = refl; inodes = a.shows.inodes; hung = a.shows.hung };
      }

  abbrev cases_of_names : Bool → Option ℕ → Outcome Renamed
  cases_of_names below place = with_name (tree_of V) (name_kind name) Invalid Invalid (with_name (tree_of V) (name_kind new_name) Invalid Invalid (named_case V c w name new_name below place now))

  -- the names are ones
  pub names-on : names_status name new_name ≡ None → (W : View) (reply : Result Renamed Status) → IsRename V W w name cases reply → IsRename V W w name cases_of_names reply
  names-on on W reply r = record {
    below = r.below;
    place = r.place;
    may = r.may;
    tells = r.tells;
    is = r.is
        ∙ sym (
        ap (λ n. with_name (tree_of V) n Invalid Invalid (with_name (tree_of V) (name_kind new_name) Invalid Invalid (cases r.below r.place))) (both-named name new_name on).0
        ∙ ap (λ n. with_name (tree_of V) n Invalid Invalid (cases r.below r.place)) (both-named name new_name on).1);
    form = r.form;
    shows = r.shows;
  }

  -- or not
  pub names-refused : (status : Status) → names_status name new_name ≡ Some status → IsRename V V w name cases_of_names (Err status)
  names-refused status why =
      let b = told-below V sound w.source.number name w.goal.number in
      record {
        below = b.0;
        place = None;
        may = tt;
        tells = b.1;
        is = sym (by (or-some (name_status (name_kind name) Invalid Invalid) (name_status (name_kind new_name) Invalid Invalid) status why) (cases b.0 None));
        form = record { numbers = refl; first_data = refl; data_blocks = refl };
        shows = sound-shows V sound;
      }
    where
      by : (name_status (name_kind name) Invalid Invalid ≡ Some status) ⊎ ((name_status (name_kind name) Invalid Invalid ≡ None) × (name_status (name_kind new_name) Invalid Invalid ≡ Some status)) → (o : Outcome Renamed)
          → with_name (tree_of V) (name_kind name) Invalid Invalid (with_name (tree_of V) (name_kind new_name) Invalid Invalid o) ≡ refused status (tree_of V)
      by (inl one) o = refused-name V (name_kind name) Invalid Invalid status (with_name (tree_of V) (name_kind new_name) Invalid Invalid o) one
      by (inr two) o =
          ap (λ n. with_name (tree_of V) n Invalid Invalid (with_name (tree_of V) (name_kind new_name) Invalid Invalid o)) (is-name (name_kind name) Invalid Invalid two.0)
          ∙ refused-name V (name_kind new_name) Invalid Invalid status o two.1

-- ── the steps ──

module _ (old new : View → Type 0) (sound : AreSound new) (ws : List Write) (c : Caller) (w : Way) (name new_name : List ℕ) (now : Time) where
  pub named-ok : (mid : View → Type 0) (d : Result Decision Status) (decision : Decision) (reply : Renamed) → Learns old mid (λ V. DecidesName V c w name new_name d) → d ≡ Ok decision → Performs mid new ws w decision new_name now reply
      → RenamesNamed old new ws c w name new_name now (Ok reply)
  named-ok mid d decision reply l is p = record {
    same = λ V m. l.before V (p.same V m);
    is = λ V m sides. named-done V (sound V m) c w name new_name now sides decision (subst (λ d. DecidesName V c w name new_name d) is (l.now V (p.same V m))) (written ws V) reply (λ times. p.view times V m) p.told;
  }

  pub on-refused : (refusal : Option Status) (status : Status) → ((V : View) → new V → old V) → ws ≡ [] → refusal ≡ names_status name new_name → refusal ≡ Some status → Renames old new ws c w name new_name now (Err status)
  on-refused refusal status same unwritten names is = record {
    same = same;
    is = λ V m sides. subst (λ ws. IsRename V (written ws V) w name (cases_of_names V (sound V m) c w name new_name now sides) (Err status)) (sym unwritten) (names-refused V (sound V m) c w name new_name now sides status (sym names ∙ is));
  }

  pub on-named : (refusal : Option Status) (reply : Result Renamed Status) → refusal ≡ names_status name new_name → refusal ≡ None → RenamesNamed old new ws c w name new_name now reply → Renames old new ws c w name new_name now reply
  on-named refusal reply names is r = record {
    same = r.same;
    is = λ V m sides. names-on V (sound V m) c w name new_name now sides (sym names ∙ is) (written ws V) reply (r.is V m sides);
  }

-- ── the call ──

module _ (first old new : View → Type 0) (sound : AreSound new) (ws : List Write) (h k : Handle) (c : Caller) (name new_name : List ℕ) (now : Time) (way : Result Way Status) (l : Learns first old (λ V. IsWay V c h k way)) where
  pub rename-err : (status : Status) → ws ≡ [] → way ≡ Err status → ((V : View) → new V → old V) → Does new ws (rename h name k new_name) c now (renamed (Err status))
  rename-err status unwritten is same = does-reads new ws (rename h name k new_name) c now (renamed (Err status)) unwritten sound (λ V m. by V (sound V m) way (l.now V (same V m)) is)
    where
      to : (V : View) → IsSoundView V → (s : Record) → IsNode V h s → (way : Result Way Status) → IsWayTo V c (record { number = h.number; inode = s }) k way → way ≡ Err status → Op (rename h name k new_name) c now (tree_of V) (renamed (Err status)) (tree_of V)
      to V good s source _ (stale g) e = subst (λ s. Op (rename h name k new_name) c now (tree_of V) (renamed (Err s)) (tree_of V)) (cc) (rename-no_goal V good h k c name new_name now s source g)
      to V good s source way (leads t _ goal tells) e = rename-unsearched V good h k c name new_name now s source t goal status (sym tells ∙ e)

      by : (V : View) → IsSoundView V → (way : Result Way Status) → IsWay V c h k way → way ≡ Err status → Op (rename h name k new_name) c now (tree_of V) (renamed (Err status)) (tree_of V)
      by V good _ (none g) e = subst (λ s. Op (rename h name k new_name) c now (tree_of V) (renamed (Err s)) (tree_of V)) (cc) (rename-gone V good h k c name new_name now g)
      by V good way (begins s _ source goes) e = to V good s source way goes e

  module _ (caller : IsCaller c) (time : IsTime now) where
    pub rename-ok : (w : Way) (reply : Result Renamed Status) → way ≡ Ok w → Renames old new ws c w name new_name now reply → Does new ws (rename h name k new_name) c now (renamed reply)
    rename-ok w reply is r = record { op = λ V m. op V m; sound = λ V m. both V m }
      where
        to : (V : View) → new V → (s : Record) → IsNode V h s → (way : Result Way Status) → IsWayTo V c (record { number = h.number; inode = s }) k way → way ≡ Ok w
            → AreSides V w × Op (rename h name k new_name) c now (tree_of V) (renamed reply) (tree_of (written ws V))
        to V m s source _ (stale g) e = absurd (cc (e))
        to V m s source way (leads t _ goal tells) e =
            let sides : AreSides V w = sides-are V (sound V m) h k c name new_name now s source t goal w (sym tells ∙ e) in
            (sides, rename-done V (sound V m) h k c name new_name now s source t goal w (sym tells ∙ e) (written ws V) reply (r.is V m sides))

        by : (V : View) → new V → (way : Result Way Status) → IsWay V c h k way → way ≡ Ok w → AreSides V w × Op (rename h name k new_name) c now (tree_of V) (renamed reply) (tree_of (written ws V))
        by V m _ (none g) e = absurd (cc (e))
        by V m way (begins s _ source goes) e = to V m s source way goes e

        all : (V : View) → new V → AreSides V w × Op (rename h name k new_name) c now (tree_of V) (renamed reply) (tree_of (written ws V))
        all V m = by V m way (l.now V (r.same V m)) is

        op : (V : View) → new V → Op (rename h name k new_name) c now (tree_of V) (renamed reply) (tree_of (written ws V))
        op V m = (all V m).1

        both : (V : View) → new V → IsSoundView (written ws V)
        both V m =
            let done = r.is V m (all V m).0 in
            calls-stay-sound V (written ws V) (tree_of (written ws V)) (rename h name k new_name) c now (renamed reply) tt caller time (sound V m) done.form (op V m) done.shows
