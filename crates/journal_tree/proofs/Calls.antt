-- What each call does, and that its reply is true.
use Rattle.std.proofs.Common.{◌≡◌, ◌≢◌, ℕ, ◌+◌, ◌%◌, ◌<◌, ◌==◌, Bool, true, false, not, ◌&&◌, ◌||◌, List, [], length, Option, Some, None, Ok, refl, sym, ap, arith, inr, ◌∙◌}
use Rattle.std.specs.Prelude.{⊤, is_some, is_none, nat_lt, map, option_map, unwrap_or}
use Rattle.std.proofs.lemmas.Bool.{eqb-true, and_parts, or_parts, not-false, ltb-false, true≢false}
use Rattle.journal_tree.specs.declared.limits.TheConstants.{MOST_BYTES, MOST_LINK, MOST_PLACES, MODES, FILE_MODE, DIRECTORY_MODE, LINK_MODE}
use Rattle.journal_tree.specs.declared.time.Time.{Time}
use Rattle.journal_tree.specs.declared.reply.Attributes.{Attributes}
use Rattle.journal_tree.specs.declared.reply.Kind.{Kind}
use Rattle.journal_tree.specs.declared.reply.Kind.TheVariants.{Directory, File, Link}
use Rattle.journal_tree.specs.declared.reply.Handle.{Handle}
use Rattle.journal_tree.specs.declared.reply.Changed.{Changed}
use Rattle.journal_tree.specs.declared.reply.Found.{Found}
use Rattle.journal_tree.specs.declared.reply.Made.{Made}
use Rattle.journal_tree.specs.declared.reply.Room.{Room}
use Rattle.journal_tree.specs.declared.reply.Free.{Free}
use Rattle.journal_tree.specs.declared.settings.Settings.{Settings}
use Rattle.journal_tree.specs.declared.settings.CreateMode.{CreateMode}
use Rattle.journal_tree.specs.declared.settings.CreateMode.TheVariants.{Unchecked, Guarded, Exclusive}
use Rattle.journal_tree.specs.declared.status.Status.TheVariants.{NotOwner, NoEntry, Exists, NotDirectory, IsDirectory, Invalid, TooBig, NoSpace, NameTooLong, NotEmpty, NotSync, NotSupported, TooSmall}
use Rattle.journal_tree.specs.Trees.{Body, Node, Slot, Tree, is_directory, is_file, with_node, find, find_any}
use Rattle.journal_tree.specs.Trees.Body.{directory, file, link}
use Rattle.journal_tree.specs.Times.{IsTime}
use Rattle.journal_tree.specs.declared.caller.Caller.{Caller}
use Rattle.journal_tree.specs.Callers.{is_root}
use Rattle.journal_tree.specs.Rights.{SET_GROUP_BIT, has_bit, may_fetch, may_store, may_read, may_rename, may_take}
use Rattle.journal_tree.specs.Rule.{HasTree}
use Rattle.journal_tree.specs.declared.name.NameKind.{NameKind}
use Rattle.journal_tree.specs.Calls.{refused, target, told, name_kind, some_node}
use Rattle.journal_tree.specs.declared.name.NameKind.TheVariants.{Dot, DotDot, NoName, LongName, Name}
use Rattle.journal_tree.specs.Changes.{touched, opened, touch_place, planted, cut}
use Rattle.journal_tree.specs.Attributes.{resized, group_mode, is_no_time, is_too_big, is_other_time, asks_nothing, may_set, may_set_bytes, with_settings, changed, unchanged, getattr_case, setattr_case, access_case}
use Rattle.journal_tree.specs.Contents.{overlaid, written, read_body, read_case, write_body, write_case, commit_body, commit_case}
use Rattle.journal_tree.specs.Names.{parent_of, found, lookup_name, lookup_case, group_within, new_group, new_attributes, new_node, born, made_before, size_alone, create_over, create_new, exclusive_attributes, create_exclusive, is_made_by, create_again, create_case, mkdir_new, mkdir_case, symlink_new, symlink_case, text_of, removed, may_remove, remove_case, rmdir_case, readlink_case, make_other_case, link_case}
use Rattle.journal_tree.specs.Listing.{Item, Page, line_of, with_page, items_above, readdir_case, readdirplus_case}
use Rattle.journal_tree.specs.Facts.{fsstat_case, fsinfo_case, pathconf_case}
use Rattle.journal_tree.specs.Op.{Call, MayTake}
use Rattle.journal_tree.specs.Fit.{IsWord, IsLong, IsFit, IsFitBody, IsAsked, IsAskedMode, IsCaller}
use Rattle.journal_tree.specs.Laws.{IsTrueOf, IsTrueChange, IsTrueFound, IsTrueMade, verifier_of}
use Rattle.journal_tree.proofs.Changing.{at_other}
use Rattle.journal_tree.proofs.Hanging.{leaf, empty, not_itself}
use Rattle.journal_tree.proofs.Steps.{Known, IsChange, IsCut, IsRight, own_slot, right_no, right_yes, right_if, right_allowed, right_target, right_directory, right_searched, right_find, right_named}
use Rattle.journal_tree.proofs.Steps.Step.{stays, sets, plants, cuts}
use Rattle.journal_tree.proofs.Bounds.{mtime-fits, group-low, modulo-low, within-low, or-word, choice-word, resized-fits}
use Rattle.journal_tree.proofs.Setting.{settings-change, size-change, write-change}

-- nothing is promised of what the reply tells
abbrev pub Anything : {A : Type 0} → A → Tree → Type 0
Anything a T = ⊤

-- what the replies tell is so
abbrev pub TrueChange : Tree → ℕ → Changed → Tree → Type 0
TrueChange T n r T2 = IsTrueChange T T2 n r

abbrev pub TrueFound : ℕ → Found → Tree → Type 0
TrueFound n r T2 = IsTrueFound T2 n r

abbrev pub TrueMade : Tree → ℕ → Made → Tree → Type 0
TrueMade T n r T2 = IsTrueMade T T2 n r

-- what is a file is no directory
file-no-directory : (b : Body) → is_file b ≡ true → is_directory b ≡ false
file-no-directory (directory places) e = absurd (true≢false (sym e))
file-no-directory (file bytes) e = refl
file-no-directory (link text) e = refl

-- a node in a tree is told as it is
pub true-of : (T : Tree) (n : ℕ) (x : Node) → (T.at n).node ≡ Some x → IsTrueOf T n (told n x)
true-of T n x is = record { node = x; is = is; tells = refl }

module _ (R : Known) (c : Caller) (now : Time) (T : Tree) where
  -- ── calls that change nothing ──

  still : {A : Type 0} (r : A) → IsRight R c now T Anything (Ok r, T)
  still r = right_yes R c now T Anything r T stays tt

  pub getattr-right : (h : Handle) → IsRight R c now T Anything (getattr_case T (target T h))
  getattr-right h = right_target R c now T Anything h _ (λ x is. still (told h.number x))

  pub access-right : (h : Handle) (asked : ℕ) → IsRight R c now T Anything (access_case c asked T (target T h))
  access-right h asked = right_target R c now T Anything h _ (λ x is. still _)

  pub readlink-right : (h : Handle) → IsRight R c now T Anything (readlink_case T (target T h))
  readlink-right h = right_target R c now T Anything h _ (λ x is. by x x.body)
    where
      by : (x : Node) (b : Body) → IsRight R c now T Anything (text_of T h.number x b)
      by x (directory places) = right_no R c now T Anything Invalid
      by x (file bytes) = right_no R c now T Anything Invalid
      by x (link text) = still _

  pub read-right : (h : Handle) (offset count : ℕ) → IsRight R c now T Anything (read_case c offset count T (target T h))
  read-right h offset count = right_target R c now T Anything h _ (λ x is. by x x.body)
    where
      by : (x : Node) (b : Body) → IsRight R c now T Anything (read_body c offset count T h.number x b)
      by x (directory places) = right_no R c now T Anything Invalid
      by x (file bytes) = right_allowed R c now T Anything (may_fetch c x.attributes) _ (λ _. still _)
      by x (link text) = right_no R c now T Anything Invalid

  pub commit-right : (h : Handle) → IsRight R c now T Anything (commit_case T (target T h))
  commit-right h = right_target R c now T Anything h _ (λ x is. by x x.body)
    where
      by : (x : Node) (b : Body) → IsRight R c now T Anything (commit_body T h.number x b)
      by x (directory places) = right_no R c now T Anything Invalid
      by x (link text) = right_no R c now T Anything Invalid
      by x (file bytes) = still _

  pub fsstat-right : (h : Handle) (free : Free) → IsRight R c now T Anything (fsstat_case free T (target T h))
  fsstat-right h free = right_target R c now T Anything h _ (λ x is. still _)

  pub fsinfo-right : (h : Handle) → IsRight R c now T Anything (fsinfo_case T (target T h))
  fsinfo-right h = right_target R c now T Anything h _ (λ x is. still _)

  pub pathconf-right : (h : Handle) → IsRight R c now T Anything (pathconf_case T (target T h))
  pathconf-right h = right_target R c now T Anything h _ (λ x is. still _)

  page-right : {A : Type 0} (items : List Item) (count : ℕ) (answer : Page → A) → IsRight R c now T Anything (with_page T items count answer)
  page-right items count answer = right_if R c now T Anything (nat_lt 0 (length items) && count == 0) _ _ (λ _. right_no R c now T Anything TooSmall) (λ _. still _)

  pub readdir-right : (h : Handle) (cookie most : ℕ) → IsRight R c now T Anything (readdir_case c cookie most T (target T h))
  readdir-right h cookie most = right_directory R c now T Anything h _ (λ x is kind. right_allowed R c now T Anything (may_read c x.attributes) _ (λ _.
      page-right (items_above T h.number x cookie) _ (λ (page : Page). record { directory = told h.number x; page = page })))

  pub readdirplus-right : (h : Handle) (cookie names most : ℕ) → IsRight R c now T Anything (readdirplus_case c cookie names most T (target T h))
  readdirplus-right h cookie names most = right_directory R c now T Anything h _ (λ x is kind. right_allowed R c now T Anything (may_read c x.attributes) _ (λ _.
      page-right (items_above T h.number x cookie) _ (λ (page : Page). record { directory = told h.number x; page = page; lines = map (line_of T) page.items })))

  pub other-right : (h : Handle) (name : List ℕ) → IsRight R c now T Anything (make_other_case c name T (target T h))
  other-right h name = right_named R c now T Anything h name Exists Exists _ _
      (λ x is kind is_name none. right_allowed R c now T Anything (may_rename c x.attributes) _ (λ _. right_no R c now T Anything NotSupported))
      (λ x is kind n y at home. right_no R c now T Anything Exists)

  pub link-right : (h k : Handle) (name : List ℕ) → IsRight R c now T Anything (link_case c name T (target T h) (target T k))
  link-right h k name = right_target R c now T Anything h _ (λ x is. other-right k name)

  -- ── SETATTR and WRITE ──

  changed-right : (n : ℕ) (x y : Node) → (T.at n).node ≡ Some x → IsChange R c now x y → IsRight R c now T (TrueChange T n) (changed T n x y)
  changed-right n x y is change = right_yes R c now T (TrueChange T n) _ (with_node T n (Some y)) (sets n x y is change) (record {
    before = true-of T n x is;
    after = true-of (with_node T n (Some y)) n y (ap (λ (s : Slot). s.node) (own_slot T n (record { generation = (T.at n).generation; node = Some y })));
  })

  unchanged-right : (n : ℕ) (x : Node) → (T.at n).node ≡ Some x → IsRight R c now T (TrueChange T n) (unchanged T n x)
  unchanged-right n x is = right_yes R c now T (TrueChange T n) _ T stays (record { before = true-of T n x is; after = true-of T n x is })

  pub setattr-right : (h : Handle) (s : Settings) (guard : Option Time) → (R.bounds → IsAsked s) → IsRight R c now T (TrueChange T h.number) (setattr_case c s guard now T (target T h))
  setattr-right h s guard asked = right_target R c now T (TrueChange T h.number) h _ (λ x is.
      right_if R c now T (TrueChange T h.number) (is_some s.size && not (is_file x.body)) _ _ (λ _. right_no R c now T (TrueChange T h.number) Invalid) (λ _.
      right_if R c now T (TrueChange T h.number) (is_no_time s.mtime) _ _ (λ _. right_no R c now T (TrueChange T h.number) Invalid) (λ shown.
      right_if R c now T (TrueChange T h.number) (not (may_set c s x.attributes)) _ _ (λ _. right_no R c now T (TrueChange T h.number) NotOwner) (λ may.
      right_allowed R c now T (TrueChange T h.number) (may_set_bytes c s x.attributes) _ (λ may_bytes.
      right_if R c now T (TrueChange T h.number) (is_other_time guard x.attributes.ctime) _ _ (λ _. right_no R c now T (TrueChange T h.number) NotSync) (λ _.
      right_if R c now T (TrueChange T h.number) (is_too_big s.size) _ _ (λ _. right_no R c now T (TrueChange T h.number) TooBig) (λ few.
      right_if R c now T (TrueChange T h.number) (asks_nothing s) _ _ (λ _. unchanged-right h.number x is) (λ _.
      changed-right h.number x (with_settings c s x now) is (settings-change R c now s x asked shown few (not-false (may_set c s x.attributes) may) may_bytes)))))))))

  pub write-right : (h : Handle) (room : Bool) (offset count : ℕ) (bs : List ℕ) → IsRight R c now T (TrueChange T h.number) (write_case c room offset count bs now T (target T h))
  write-right h room offset count bs = right_target R c now T (TrueChange T h.number) h _ (λ x is. by x is x.body refl)
    where
      by : (x : Node) → (T.at h.number).node ≡ Some x → (b : Body) → x.body ≡ b → IsRight R c now T (TrueChange T h.number) (write_body c room offset count bs now T h.number x b)
      by x is (directory places) body = right_no R c now T (TrueChange T h.number) Invalid
      by x is (link text) body = right_no R c now T (TrueChange T h.number) Invalid
      by x is (file bytes) body =
          right_if R c now T (TrueChange T h.number) (not (count == length bs)) _ _ (λ _. right_no R c now T (TrueChange T h.number) Invalid) (λ all.
          right_allowed R c now T (TrueChange T h.number) (may_store c x.attributes) _ (λ may.
          right_if R c now T (TrueChange T h.number) (count == 0) _ _ (λ _. unchanged-right h.number x is) (λ _.
          right_if R c now T (TrueChange T h.number) (nat_lt MOST_BYTES (offset + count)) _ _ (λ _. right_no R c now T (TrueChange T h.number) TooBig) (λ few.
          right_if R c now T (TrueChange T h.number) (not room) _ _ (λ _. right_no R c now T (TrueChange T h.number) NoSpace) (λ _.
          changed-right h.number x (written c x (overlaid bytes offset bs) now) is (write-change R c now x bytes offset bs body (
          let same = eqb-true count (length bs) (not-false (count == length bs) all) in
          let l = ltb-false MOST_BYTES (offset + count) few in
          omega (arith, same, l)) may))))))

  -- ── LOOKUP ──

  found-right : (d : ℕ) (x : Node) (n : ℕ) (y : Node) → (T.at d).node ≡ Some x → (T.at n).node ≡ Some y → IsRight R c now T (TrueFound d) (found T d x n y)
  found-right d x n y is at = right_yes R c now T (TrueFound d) _ T stays (record { node = true-of T n y at; generation = refl; directory = true-of T d x is })

  pub lookup-right : (h : Handle) (name : List ℕ) → IsRight R c now T (TrueFound h.number) (lookup_case c name T (target T h))
  lookup-right h name = right_searched R c now T (TrueFound h.number) h _ (λ x is kind. by x is (name_kind name))
    where
      up : (x : Node) → (T.at h.number).node ≡ Some x → (o : Option Node) → (T.at (parent_of h.number x)).node ≡ o
          → IsRight R c now T (TrueFound h.number) (some_node o (refused NoEntry T) (found T h.number x (parent_of h.number x)))
      up x is None at = right_no R c now T (TrueFound h.number) NoEntry
      up x is (Some y) at = found-right h.number x (parent_of h.number x) y is at

      by : (x : Node) → (T.at h.number).node ≡ Some x → (kind : NameKind) → IsRight R c now T (TrueFound h.number) (lookup_name T h.number x kind name)
      by x is Dot = found-right h.number x h.number x is is
      by x is DotDot = up x is (T.at (parent_of h.number x)).node refl
      by x is NoName = right_no R c now T (TrueFound h.number) Invalid
      by x is LongName = right_no R c now T (TrueFound h.number) NameTooLong
      by x is Name = right_find R c now T (TrueFound h.number) h.number name (refused NoEntry T) (found T h.number x)
          (λ _. right_no R c now T (TrueFound h.number) NoEntry) (λ n y at home. found-right h.number x n y is at)

  -- ── CREATE, MKDIR and SYMLINK ──

  -- a new node, of which the caller and what he asks are told by numbers of 32 bits
  new-fits : (s : Settings) (d : ℕ) (x : Node) (room : Room) (name : List ℕ) (kind : Kind) (body : Body) (mode : ℕ) → (R.bounds → IsAsked s) → (R.bounds → IsCaller c) → is_no_time s.mtime ≡ false → name_kind name ≡ Name
      → IsFitBody body → room.place < MOST_PLACES → R.bounds → IsTime now → IsFit x → IsFit (new_node d room name (new_attributes c s x.attributes kind mode now) body)
  new-fits s d x room name kind body mode asked caller shown is_name fit_body within r moment fit = record {
    home = inr is_name;
    place = within;
    body = fit_body;
    mode = within-low x.attributes kind (group_mode c (new_group c s x.attributes) (unwrap_or s.mode mode % MODES)) (group-low c (new_group c s x.attributes) (unwrap_or s.mode mode % MODES) MODES (modulo-low (unwrap_or s.mode mode)));
    owner = choice-word (is_root c) (unwrap_or s.owner c.user) c.user (or-word s.owner c.user (asked r).owner (caller r).user) (caller r).user;
    group = choice-word (is_root c) (unwrap_or s.group (group_within c x.attributes)) (group_within c x.attributes) (or-word s.group (group_within c x.attributes) (asked r).group within_word) within_word;
    mtime = mtime-fits false s.mtime now now shown (asked r).mtime moment moment;
    ctime = moment;
    verifier = tt;
  }
    where
      within_word : IsWord (group_within c x.attributes)
      within_word = choice-word (has_bit x.attributes.mode SET_GROUP_BIT) x.attributes.group c.group fit.group (caller r).group

  born-right : (d : ℕ) (x : Node) (name : List ℕ) (room : Option Room) (a : Attributes) (body : Body) → (T.at d).node ≡ Some x → is_directory x.body ≡ true → find T d name ≡ None → MayTake T d room
      → a.verifier ≡ R.verifier → may_rename c x.attributes ≡ true → ((room : Room) → room.place < MOST_PLACES → R.bounds → IsTime now → IsFit x → IsFit (new_node d room name a body))
      → IsRight R c now T (TrueMade T d) (born T d x name room a body now)
  born-right d x name None a body is kind free take given may fit = right_no R c now T (TrueMade T d) NoSpace
  born-right d x name (Some room) a body is kind free take given may fit =
      right_yes R c now T (TrueMade T d) _ (planted (touch_place T d room.place now) room.number (new_node d room name a body))
      (plants d x room (new_node d room name a body) (record {
        is = is;
        kind = kind;
        room = take;
        free = free;
        directory = refl;
        place = refl;
        verifier = given;
        fit = fit room take.within;
        rights = may;
      }))
      (record {
        node = true-of (planted (touch_place T d room.place now) room.number (new_node d room name a body)) room.number (new_node d room name a body) (ap (λ (s : Slot). s.node) new);
        generation = ap (λ (s : Slot). s.generation) new ∙ ap (λ (s : Slot). s.generation + 1) (at_other T d room.number _ (λ e. apart (sym e)));
        directory = record {
          before = true-of T d x is;
          after = true-of (planted (touch_place T d room.place now) room.number (new_node d room name a body)) d (opened room.place now x)
              (ap (λ (s : Slot). s.node) (at_other (touch_place T d room.place now) room.number d _ apart)
              ∙ ap (λ (s : Slot). s.node) (own_slot T d (record { generation = (T.at d).generation; node = option_map (opened room.place now) (T.at d).node }))
              ∙ ap (option_map (opened room.place now)) is);
        };
      })
    where
      apart : d ≢ room.number
      apart e = absurd (cc (sym take.free ∙ ap (λ (i : ℕ). (T.at i).node) (sym e) ∙ is))

      new : (planted (touch_place T d room.place now) room.number (new_node d room name a body)).at room.number
          ≡ record { generation = ((touch_place T d room.place now).at room.number).generation + 1; node = Some (new_node d room name a body) }
      new = own_slot (touch_place T d room.place now) room.number _

  -- a file that is there is told as it is
  before-right : (d : ℕ) (x : Node) (n : ℕ) (y : Node) → (T.at d).node ≡ Some x → (T.at n).node ≡ Some y → IsRight R c now T (TrueMade T d) (made_before T d x n y)
  before-right d x n y is at = right_yes R c now T (TrueMade T d) _ T stays (record { node = true-of T n y at; generation = refl; directory = record { before = true-of T d x is; after = true-of T d x is } })

  over-right : (s : Settings) (d : ℕ) (x : Node) (n : ℕ) (y : Node) → (T.at d).node ≡ Some x → is_directory x.body ≡ true → (T.at n).node ≡ Some y → IsRight R c now T (TrueMade T d) (create_over c s now T d x n y)
  over-right s d x n y is kind at =
      right_if R c now T (TrueMade T d) (not (is_file y.body)) _ _ (λ _. right_no R c now T (TrueMade T d) Exists) (λ a_file.
      right_if R c now T (TrueMade T d) (is_none s.size) _ _
      (λ _. before-right d x n y is at) (λ _.
      right_allowed R c now T (TrueMade T d) (may_store c y.attributes) _ (λ may.
      right_if R c now T (TrueMade T d) (is_too_big s.size) _ _ (λ _. right_no R c now T (TrueMade T d) TooBig) (λ few.
      right_yes R c now T (TrueMade T d) _ (with_node T n (Some (sized s y))) (sets n y (sized s y) at (size-change R c now s.size y few may)) (record {
        node = true-of (with_node T n (Some (sized s y))) n (sized s y) (ap (λ (s : Slot). s.node) (own_slot T n (record { generation = (T.at n).generation; node = Some (sized s y) })));
        generation = refl;
        directory = record {
          before = true-of T d x is;
          after = true-of (with_node T n (Some (sized s y))) d x (ap (λ (s : Slot). s.node) (at_other T n d _ (apart (file-no-directory y.body (not-false (is_file y.body) a_file)))) ∙ is);
        };
      })))))
    where
      sized : Settings → Node → Node
      sized s y = with_settings c (size_alone s.size) y now

      apart : is_directory y.body ≡ false → d ≢ n
      apart a_file e =
          let q : Some x ≡ Some y = sym is ∙ ap (λ (i : ℕ). (T.at i).node) e ∙ at in
          let q2 : x ≡ y = cc in
          true≢false (sym kind ∙ ap (λ (x : Node). is_directory x.body) q2 ∙ a_file)

  new-right : (name : List ℕ) (s : Settings) (room : Option Room) (d : ℕ) (x : Node) → None ≡ R.verifier → (R.bounds → IsAsked s) → (R.bounds → IsCaller c) → (T.at d).node ≡ Some x → is_directory x.body ≡ true → name_kind name ≡ Name
      → find T d name ≡ None → MayTake T d room → IsRight R c now T (TrueMade T d) (create_new c name s room now T d x)
  new-right name s room d x given asked caller is kind is_name free take =
      right_allowed R c now T (TrueMade T d) (may_rename c x.attributes) _ (λ may.
      right_if R c now T (TrueMade T d) (is_no_time s.mtime) _ _ (λ _. right_no R c now T (TrueMade T d) Invalid) (λ shown.
      right_if R c now T (TrueMade T d) (is_too_big s.size) _ _ (λ _. right_no R c now T (TrueMade T d) TooBig) (λ few.
      born-right d x name room (new_attributes c s x.attributes File FILE_MODE now) (file (resized [] s.size)) is kind free take given may
      (λ place within r moment fit. new-fits s d x place name File (file (resized [] s.size)) FILE_MODE asked caller shown is_name (resized-fits (file []) s.size few (omega arith)) within r moment fit))))

  exclusive-fits : (verifier d : ℕ) (x : Node) (room : Room) (name : List ℕ) → (R.bounds → IsLong verifier) → (R.bounds → IsCaller c) → name_kind name ≡ Name → room.place < MOST_PLACES
      → R.bounds → IsTime now → IsFit x → IsFit (new_node d room name (exclusive_attributes c verifier x.attributes now) (file []))
  exclusive-fits verifier d x room name asked caller is_name within r moment fit = record {
    home = inr is_name;
    place = within;
    body = omega arith;
    mode = omega arith;
    owner = (caller r).user;
    group = choice-word (has_bit x.attributes.mode SET_GROUP_BIT) x.attributes.group c.group fit.group (caller r).group;
    mtime = moment;
    ctime = moment;
    verifier = asked r;
  }

  exclusive-right : (name : List ℕ) (verifier : ℕ) (room : Option Room) (d : ℕ) (x : Node) → Some verifier ≡ R.verifier → (R.bounds → IsLong verifier) → (R.bounds → IsCaller c) → (T.at d).node ≡ Some x
      → is_directory x.body ≡ true → name_kind name ≡ Name → find T d name ≡ None → MayTake T d room → IsRight R c now T (TrueMade T d) (create_exclusive c name verifier room now T d x)
  exclusive-right name verifier room d x given asked caller is kind is_name free take =
      right_allowed R c now T (TrueMade T d) (may_rename c x.attributes) _ (λ may.
      born-right d x name room (exclusive_attributes c verifier x.attributes now) (file []) is kind free take given may
      (λ place within r moment fit. exclusive-fits verifier d x place name asked caller is_name within r moment fit))

  again-right : (verifier d : ℕ) (x : Node) (n : ℕ) (y : Node) → (T.at d).node ≡ Some x → (T.at n).node ≡ Some y → IsRight R c now T (TrueMade T d) (create_again verifier T d x n y)
  again-right verifier d x n y is at =
      right_if R c now T (TrueMade T d) (is_made_by verifier y) _ _ (λ _. before-right d x n y is at) (λ _. right_no R c now T (TrueMade T d) Exists)

  pub create-right : (h : Handle) (name : List ℕ) (how : CreateMode) (room : Option Room) → verifier_of (Call.create h name how) ≡ R.verifier → (R.bounds → IsAskedMode how) → (R.bounds → IsCaller c) → MayTake T h.number room
      → IsRight R c now T (TrueMade T h.number) (create_case c name how room now T (target T h))
  create-right h name (Unchecked s) room given asked caller take = right_named R c now T (TrueMade T h.number) h name Exists Exists (create_new c name s room now T) (create_over c s now T)
      (λ x is kind is_name free. new-right name s room h.number x given asked caller is kind is_name free take) (λ x is kind n y at home. over-right s h.number x n y is kind at)
  create-right h name (Guarded s) room given asked caller take = right_named R c now T (TrueMade T h.number) h name Exists Exists (create_new c name s room now T) _
      (λ x is kind is_name free. new-right name s room h.number x given asked caller is kind is_name free take) (λ x is kind n y at home. right_no R c now T (TrueMade T h.number) Exists)
  create-right h name (Exclusive verifier) room given asked caller take = right_named R c now T (TrueMade T h.number) h name Exists Exists (create_exclusive c name verifier room now T) (create_again verifier T)
      (λ x is kind is_name free. exclusive-right name verifier room h.number x given asked caller is kind is_name free take) (λ x is kind n y at home. again-right verifier h.number x n y is at)

  pub mkdir-right : (h : Handle) (name : List ℕ) (s : Settings) (room : Option Room) → None ≡ R.verifier → (R.bounds → IsAsked s) → (R.bounds → IsCaller c) → MayTake T h.number room
      → IsRight R c now T (TrueMade T h.number) (mkdir_case c name s room now T (target T h))
  mkdir-right h name s room given asked caller take = right_named R c now T (TrueMade T h.number) h name Exists Exists (mkdir_new c name s room now T) _
      (λ x is kind is_name free.
      right_allowed R c now T (TrueMade T h.number) (may_rename c x.attributes) _ (λ may.
      right_if R c now T (TrueMade T h.number) (is_no_time s.mtime) _ _ (λ _. right_no R c now T (TrueMade T h.number) Invalid) (λ shown.
      born-right h.number x name room (new_attributes c s x.attributes Directory DIRECTORY_MODE now) (directory 0) is kind free take given may
      (λ place within r moment fit. new-fits s h.number x place name Directory (directory 0) DIRECTORY_MODE asked caller shown is_name (omega arith, (0, refl)) within r moment fit))))
      (λ x is kind n y at home. right_no R c now T (TrueMade T h.number) Exists)

  pub symlink-right : (h : Handle) (name : List ℕ) (s : Settings) (text : List ℕ) (room : Option Room) → None ≡ R.verifier → (R.bounds → IsAsked s) → (R.bounds → IsCaller c) → MayTake T h.number room
      → IsRight R c now T (TrueMade T h.number) (symlink_case c name s text room now T (target T h))
  symlink-right h name s text room given asked caller take = right_named R c now T (TrueMade T h.number) h name Exists Exists (symlink_new c name s text room now T) _
      (λ x is kind is_name free.
      right_allowed R c now T (TrueMade T h.number) (may_rename c x.attributes) _ (λ may.
      right_if R c now T (TrueMade T h.number) (is_no_time s.mtime || length text == 0) _ _ (λ _. right_no R c now T (TrueMade T h.number) Invalid) (λ full.
      right_if R c now T (TrueMade T h.number) (nat_lt MOST_LINK (length text)) _ _ (λ _. right_no R c now T (TrueMade T h.number) NameTooLong) (λ few.
      born-right h.number x name room (new_attributes c s x.attributes Link LINK_MODE now) (link text) is kind free take given may
      (λ place within r moment fit.
      new-fits s h.number x place name Link (link text) LINK_MODE asked caller (or_parts (is_no_time s.mtime) (length text == 0) full).0 is_name (ltb-false MOST_LINK (length text) few) within r moment fit)))))
      (λ x is kind n y at home. right_no R c now T (TrueMade T h.number) Exists)

  -- ── REMOVE and RMDIR ──

  removed-right : (d n : ℕ) (x y : Node) → IsCut c T d n x y → IsRight R c now T (TrueChange T d) (removed T d x n now)
  removed-right d n x y it = right_yes R c now T (TrueChange T d) _ (cut T d n now) (cuts d n x y it) (record {
    before = true-of T d x it.is;
    after = true-of (cut T d n now) d (touched now x)
        (ap (λ (s : Slot). s.node) (own_slot (with_node T n None) d _)
        ∙ ap (λ (s : Slot). option_map (touched now) s.node) (at_other T n d _ (not_itself T n d x y it.is it.at it.home it.empty))
        ∙ ap (option_map (touched now)) it.is);
  })

  pub remove-right : (h : Handle) (name : List ℕ) → HasTree T → IsRight R c now T (TrueChange T h.number) (remove_case c name now T (target T h))
  remove-right h name tree = right_named R c now T (TrueChange T h.number) h name IsDirectory IsDirectory _ _
      (λ x is kind is_name free. right_no R c now T (TrueChange T h.number) NoEntry) (λ x is kind n y at home.
      right_allowed R c now T (TrueChange T h.number) (may_remove c x y) _ (λ may.
      right_if R c now T (TrueChange T h.number) (is_directory y.body) _ _ (λ _. right_no R c now T (TrueChange T h.number) IsDirectory) (λ a_file.
      let m = and_parts (may_rename c x.attributes) (may_take c x.attributes y.attributes) may in
      removed-right h.number n x y (record { is = is; kind = kind; at = at; home = home; empty = leaf T n y tree at a_file; rights = m.0; sticky = m.1 }))))

  pub rmdir-right : (h : Handle) (name : List ℕ) → HasTree T → IsRight R c now T (TrueChange T h.number) (rmdir_case c name now T (target T h))
  rmdir-right h name tree = right_named R c now T (TrueChange T h.number) h name Invalid Exists _ _
      (λ x is kind is_name free. right_no R c now T (TrueChange T h.number) NoEntry) (λ x is kind n y at home.
      right_allowed R c now T (TrueChange T h.number) (may_remove c x y) _ (λ may.
      right_if R c now T (TrueChange T h.number) (not (is_directory y.body)) _ _ (λ _. right_no R c now T (TrueChange T h.number) NotDirectory) (λ _.
      right_if R c now T (TrueChange T h.number) (is_some (find_any T n)) _ _ (λ _. right_no R c now T (TrueChange T h.number) NotEmpty) (λ none.
      let m = and_parts (may_rename c x.attributes) (may_take c x.attributes y.attributes) may in
      removed-right h.number n x y (record { is = is; kind = kind; at = at; home = home; empty = empty T n tree none; rights = m.0; sticky = m.1 })))))
