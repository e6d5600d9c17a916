-- What updates have of the objects that commits wrote, as the history grows.
use Rattle.std.proofs.Common.{◌≡◌, ◌≢◌, ◌⊎◌, inl, inr, ⊎_elim, ◌<◌, ◌≤◌, ◌==◌, ◌&&◌, ◌||◌, ℕ, Bool, true, false, cond, List, [], ◌∷◌, ◌++◌, IsTrue, Option, Some, None, All, refl, sym, ap, subst, append_assoc, ◌∙◌, arith}
use Rattle.std.proofs.lemmas.Bool.{false≢true, eqb-true, cases_lt}
use Rattle.std.proofs.lemmas.Cmp.{nat_eq_equiv}
use Rattle.std.proofs.lemmas.List.Elements.{All-head, All-tail}
use mathlib.Core.List.{IsPrefix}
use Rattle.journal_world.specs.declared.address.Addr.{Addr}
use Rattle.journal_world.specs.Addresses.{Value, is_valid, is_same, Shape}
use Rattle.journal_world.specs.Maps.{Pair, Map, Transaction, value_at, overwritten}
use Rattle.journal_world.specs.Histories.{Entry, count, after, at, latest}
use Rattle.journal_world.specs.Histories.Entry.{commit, stable, fence}
use Rattle.journal_world.proofs.SameMaps.{value_at-overwritten}
use Rattle.journal_world.proofs.LongerHistories.{at-count, count-commit, latest-commit, opened-append}
use Rattle.journal_world.proofs.Marks.{commits-mark, count-mark}
use Rattle.journal_world.proofs.Fences.{commits-fence, count-fence}
use Rattle.journal_block.specs.declared.update.Update.{Update}
use Rattle.journal_block.specs.Block.{Bytes}
use Rattle.journal_block.specs.Updates.{updated, updates_block}
use Rattle.journal_block.specs.UpdateLaws.{updated-append, updated-named, updated-unnamed}
use Rattle.journal_memlog.specs.Laws.{updates_block-append}
use Rattle.journal_memlog.specs.Logs.{LogState, appended}
use Rattle.journal_tail.specs.Tails.{MakeTheSame, MakesNoOther}
use Rattle.journal_tail.proofs.Kept.{no_other_behind}
use Rattle.journal_tail.specs.Maps.{object_or_zeros}
use Rattle.journal_tail.specs.ObjectTails.{known_object, after_writes, OverwritesKnown}
use Rattle.journal_tail.specs.Writes.{writes_block}
use Rattle.journal_tail.proofs.Fetched.{or_right, or_left}
use Rattle.journal_tail.proofs.KnownObjects.{known_appended}
use Rattle.journal_memory.specs.Updates.{IsSince, IsLastSince, HaveAllSince, IsOrNone, AreObjectsOf}
use Rattle.journal_memory.specs.Fetches.{IsBlockAfter}
use Rattle.journal_memory.proofs.Fronts.{at-longer, count-longer}

-- ---- of one address

last_later : (history : List Entry) (c d : ℕ) (a : Addr) (o : Option Value) → c ≤ d → IsLastSince history c a o → IsLastSince history d a o
last_later history c d a (Some v) le last = last
last_later history c d a None le last = λ n from to. last n (omega (arith, le, from)) to

-- two histories with the same maps
last_same : (history longer : List Entry) (c : ℕ) (a : Addr) (o : Option Value) → ((n : ℕ) → c ≤ n → n ≤ count longer → (value_at (at longer n) a ≡ value_at (latest longer) a) ⊎ (n ≤ count history))
    → ((n : ℕ) → n ≤ count history → at longer n ≡ at history n) → value_at (latest longer) a ≡ value_at (latest history) a
    → IsLastSince history c a o → IsLastSince longer c a o
last_same history longer c a (Some v) cases maps value last = last ∙ sym value
last_same history longer c a None cases maps value last = λ n from to. ⊎_elim
    (λ (is : value_at (at longer n) a ≡ value_at (latest longer) a). is)
    (λ (le : n ≤ count history). ap (λ (m : Map). value_at m a) (maps n le) ∙ last n from le ∙ sym value)
    (cases n from to)

-- ---- of updates

pub since_later : (n : Shape) (history : List Entry) (c d : ℕ) (us : List Update) → c ≤ d → HaveAllSince n history c us → HaveAllSince n history d us
since_later n history c d us le all = record { last = λ a valid. last_later history c d a (known_object n us a) le (all.last a valid) }

-- no commit is after all
pub since_all : (n : Shape) (history : List Entry) (c : ℕ) → count history ≤ c → HaveAllSince n history c []
since_all n history c le = record {
  last = λ a valid k from to.
      let whole : k ≡ count history = omega (arith, le, from, to) in
      ap (λ (m : Map). value_at m a) (ap (at history) whole ∙ at-count history);
}

-- updates that make the same of each block have the same
pub since_alike : (n : Shape) (history : List Entry) (c : ℕ) (us vs : List Update) → MakeTheSame us vs → HaveAllSince n history c vs → HaveAllSince n history c us
since_alike n history c us vs same all = record {
  last = λ a valid. subst (IsLastSince history c a)
      (ap (λ (t : Bool). cond t (Some (object_or_zeros n (updated vs a.block []) a)) None) (sym (same.blocks a.block))
      ∙ ap (λ (bytes : Bytes). cond (updates_block us a.block) (Some (object_or_zeros n bytes a)) None) (sym (same.content a.block [])))
      (all.last a valid);
}

-- a mark changes no map
pub latest_mark : (history : List Entry) (k : ℕ) → history ≢ [] → latest (history ++ stable k ∷ []) ≡ latest history
latest_mark history k some = λ i. after (opened-append history (stable k ∷ []) some i) (commits-mark history k i)

pub since_mark : (n : Shape) (history : List Entry) (k c : ℕ) (us : List Update) → history ≢ [] → HaveAllSince n history c us
    → HaveAllSince n (history ++ stable k ∷ []) c us
since_mark n history k c us some all = record {
  last = λ a valid. last_same history longer c a (known_object n us a) (λ m from to. inr (omega (arith, to, count-mark history k)))
      (λ m le. at-longer history longer some (stable k ∷ [], refl) m le) (ap (λ (m : Map). value_at m a) marked) (all.last a valid);
}
  where
    longer : List Entry
    longer = history ++ stable k ∷ []

    marked : latest (history ++ stable k ∷ []) ≡ latest history
    marked = latest_mark history k some

-- nor does a fence
pub latest_fence : (history : List Entry) (s : ℕ) → history ≢ [] → latest (history ++ fence s ∷ []) ≡ latest history
latest_fence history s some = λ i. after (opened-append history (fence s ∷ []) some i) (commits-fence history s i)

pub since_fence : (n : Shape) (history : List Entry) (s c : ℕ) (us : List Update) → history ≢ [] → HaveAllSince n history c us
    → HaveAllSince n (history ++ fence s ∷ []) c us
since_fence n history s c us some all = record {
  last = λ a valid. last_same history longer c a (known_object n us a) (λ m from to. inr (omega (arith, to, count-fence history s)))
      (λ m le. at-longer history longer some (fence s ∷ [], refl) m le) (ap (λ (m : Map). value_at m a) fenced) (all.last a valid);
}
  where
    longer : List Entry
    longer = history ++ fence s ∷ []

    fenced : latest (history ++ fence s ∷ []) ≡ latest history
    fenced = latest_fence history s some

-- ---- a commit

or_parts : (x y : Bool) → (x || y) ≡ false → (x ≡ false) × (y ≡ false)
or_parts true y is = absurd (false≢true (sym is))
or_parts false y is = (refl, is)

-- an address of a block that is not written has what it had
value_unwritten : (m : Map) (ws : List Pair) (a : Addr) → writes_block ws a.block ≡ false → value_at (overwritten m ws) a ≡ value_at m a
value_unwritten m [] a none = refl
value_unwritten m (w ∷ ws) a none =
    let parts = or_parts (w.0.block == a.block) (writes_block ws a.block) none in
    let other : is_same a w.0 ≡ false = ap (λ (t : Bool). t && (a.off == w.0.off)) (nat_eq_equiv.symm a.block w.0.block ∙ parts.0) in
    value_at-overwritten m w ws a
    ∙ ap (λ (t : Bool). cond t w.1 (value_at (overwritten m ws) a)) other
    ∙ value_unwritten m ws a parts.1

-- what writes make of the value of a map is that of the map overwritten
written_in : (m : Map) (ws : List Pair) (a : Addr) (o : Option Value) → IsOrNone (value_at m a) o
    → IsOrNone (value_at (overwritten m ws) a) (after_writes ws o a)
written_in m [] a o is = is
written_in m (w ∷ ws) a o is = by (is_same a w.0) refl (written_in m ws a o is)
  where
    value : (here : Bool) → is_same a w.0 ≡ here → value_at (overwritten m (w ∷ ws)) a ≡ cond here w.1 (value_at (overwritten m ws) a)
    value here is = value_at-overwritten m w ws a ∙ ap (λ (t : Bool). cond t w.1 (value_at (overwritten m ws) a)) is

    by : (here : Bool) → is_same a w.0 ≡ here → IsOrNone (value_at (overwritten m ws) a) (after_writes ws o a)
        → IsOrNone (value_at (overwritten m (w ∷ ws)) a) (after_writes (w ∷ ws) o a)
    by true here rest = subst (IsOrNone (value_at (overwritten m (w ∷ ws)) a)) (sym (ap (λ (t : Bool). cond t (Some w.1) (after_writes ws o a)) here)) (sym (value true here))
    by false here rest =
        subst (IsOrNone (value_at (overwritten m (w ∷ ws)) a)) (sym (ap (λ (t : Bool). cond t (Some w.1) (after_writes ws o a)) here))
        (subst (λ (v : Value). IsOrNone v (after_writes ws o a)) (sym (value false here)) rest)

-- what is known by updates, where their block is among them
pub known_named : (n : Shape) (us : List Update) (a : Addr) → updates_block us a.block ≡ true → known_object n us a ≡ Some (object_or_zeros n (updated us a.block []) a)
known_named n us a named = ap (λ (t : Bool). cond t (Some (object_or_zeros n (updated us a.block []) a)) None) named

module _ (n : Shape) (us more : List Update) (a : Addr) where
  -- the last update of a block counts
  pub known_later : updates_block more a.block ≡ true → known_object n (us ++ more) a ≡ known_object n more a
  known_later named =
      known_named n (us ++ more) a (updates_block-append us more a.block ∙ or_right (updates_block us a.block) (updates_block more a.block) named)
      ∙ ap (λ (bytes : Bytes). Some (object_or_zeros n bytes a)) (updated-append us more a.block [] ∙ updated-named more a.block (updated us a.block []) [] named)
      ∙ sym (known_named n more a named)

  pub known_before : updates_block more a.block ≡ false → known_object n (us ++ more) a ≡ known_object n us a
  known_before unnamed =
      ap (λ (t : Bool). cond t (Some (object_or_zeros n (updated (us ++ more) a.block []) a)) None)
      (updates_block-append us more a.block ∙ or_left (updates_block us a.block) (updates_block more a.block) unnamed)
      ∙ ap (λ (bytes : Bytes). cond (updates_block us a.block) (Some (object_or_zeros n bytes a)) None)
      (updated-append us more a.block [] ∙ updated-unnamed more a.block (updated us a.block []) unnamed)

-- what writes make of what is known is what they make of the map
pub objects_written : (n : Shape) (m : Map) (writes : List Pair) (known prepared : List Update) → AreObjectsOf n m known → OverwritesKnown n known prepared writes
    → AreObjectsOf n (overwritten m writes) prepared
objects_written n m writes known prepared are over = record { values = λ a valid. by a valid (updates_block prepared a.block) refl }
  where
    by : (a : Addr) → IsTrue (is_valid n a) → (b : Bool) → updates_block prepared a.block ≡ b → IsOrNone (value_at (overwritten m writes) a) (known_object n prepared a)
    by a valid true is = subst (IsOrNone (value_at (overwritten m writes) a)) (sym (over.values a valid) ∙ known_later n known prepared a is)
        (written_in m writes a (known_object n known a) (are.values a valid))
    by a valid false is = subst (IsOrNone (value_at (overwritten m writes) a))
        (sym (ap (λ (t : Bool). cond t (Some (object_or_zeros n (updated prepared a.block []) a)) None) is)) tt

module _ (n : Shape) (history : List Entry) (t : Transaction) (some : history ≢ []) (prepared : List Update)
    (named : (b : ℕ) → updates_block prepared b ≡ writes_block t.writes b) (written : AreObjectsOf n (overwritten (latest history) t.writes) prepared) where
  abbrev pub longer : List Entry
  longer = history ++ commit t ∷ []

  now : latest longer ≡ overwritten (latest history) t.writes
  now = latest-commit history t some

  module _ (c : ℕ) (us : List Update) (a : Addr) (valid : IsTrue (is_valid n a)) (last : IsLastSince history c a (known_object n us a)) where
    -- of a block that is written
    last_written : updates_block prepared a.block ≡ true → IsLastSince longer c a (known_object n (us ++ prepared) a)
    last_written is =
        let here = known_named n prepared a is in
        let value : object_or_zeros n (updated prepared a.block []) a ≡ value_at (overwritten (latest history) t.writes) a =
        subst (IsOrNone (value_at (overwritten (latest history) t.writes) a)) here (written.values a valid) in
        subst (IsLastSince longer c a) (sym (known_later n us prepared a is ∙ here)) (value ∙ ap (λ (m : Map). value_at m a) (sym now))

    -- of another block
    last_unwritten : updates_block prepared a.block ≡ false → IsLastSince longer c a (known_object n (us ++ prepared) a)
    last_unwritten is = subst (IsLastSince longer c a) (sym (known_before n us prepared a is))
        (last_same history longer c a (known_object n us a) cases (λ m le. at-longer history longer some (commit t ∷ [], refl) m le)
        (ap (λ (m : Map). value_at m a) now ∙ value_unwritten (latest history) t.writes a (sym (named a.block) ∙ is)) last)
      where
        cases : (m : ℕ) → c ≤ m → m ≤ count longer → (value_at (at longer m) a ≡ value_at (latest longer) a) ⊎ (m ≤ count history)
        cases m from to = ⊎_elim
            (λ (more : count history < m).
            let whole : m ≡ count longer = omega (arith, more, to, count-commit history t) in
            inl (ap (λ (k : Map). value_at k a) (ap (at longer) whole ∙ at-count longer)))
            (λ (le : m ≤ count history). inr le)
            (cases_lt (count history) m)

  -- a commit, whose updates come behind
  pub since_commit : (c : ℕ) (us : List Update) → HaveAllSince n history c us → HaveAllSince n longer c (us ++ prepared)
  since_commit c us all = record { last = λ a valid. by a valid (updates_block prepared a.block) refl }
    where
      by : (a : Addr) → IsTrue (is_valid n a) → (b : Bool) → updates_block prepared a.block ≡ b → IsLastSince longer c a (known_object n (us ++ prepared) a)
      by a valid true is = last_written c us a valid (all.last a valid) is
      by a valid false is = last_unwritten c us a valid (all.last a valid) is

-- ---- what memory knows with fetched blocks before its updates

-- what holds of each update, by its block and bytes, holds of the last of a block
last_of : (P : ℕ → Bytes → Type 0) (us : List Update) (b : ℕ) → All (λ u. P u.block u.bytes) us → updates_block us b ≡ true → P b (updated us b [])
last_of P [] b all named = absurd (false≢true named)
last_of P (u ∷ later) b all named = by (updates_block later b) refl (last_of P later b (All-tail (λ u. P u.block u.bytes) u later all))
  where
    by : (more : Bool) → updates_block later b ≡ more → (updates_block later b ≡ true → P b (updated later b [])) → P b (updated (u ∷ later) b [])
    by true more rest = subst (P b) (updated-named later b [] (cond (u.block == b) u.bytes []) more) (rest more)
    by false more rest = here (u.block == b) refl
      where
        here : (is : Bool) → (u.block == b) ≡ is → P b (updated (u ∷ later) b [])
        here true is = subst (P b) (sym (updated-unnamed later b (cond (u.block == b) u.bytes []) more ∙ ap (λ (t : Bool). cond t u.bytes []) is))
            (subst (λ (k : ℕ). P k u.bytes) (eqb-true u.block b is) (All-head (λ u. P u.block u.bytes) u later all))
        here false is = absurd (false≢true (sym (ap (λ (t : Bool). t || updates_block later b) is ∙ more) ∙ named))

module _ (n : Shape) (history : List Entry) (trimmed : ℕ) (us : List Update) (all : HaveAllSince n history trimmed us)
    (front : List Entry) (commits : ℕ) (some : front ≢ []) (begins : IsPrefix front history) (made : commits ≤ count front) (fresh : trimmed ≤ commits)
    (fetched : List Update) (are : All (IsBlockAfter n front commits) fetched) where
  fetched_latest : (a : Addr) → IsTrue (is_valid n a) → IsOrNone (value_at (latest history) a) (known_object n (fetched ++ us) a)
  fetched_latest a valid = by (updates_block us a.block) refl
    where
      value_fetched : IsSince history trimmed a → updates_block fetched a.block ≡ true → object_or_zeros n (updated fetched a.block []) a ≡ value_at (latest history) a
      value_fetched since named =
          last_of (λ b bytes. (a : Addr) → IsTrue (is_valid n a) → a.block ≡ b → object_or_zeros n bytes a ≡ value_at (at front commits) a) fetched a.block are named a valid refl
          ∙ ap (λ (m : Map). value_at m a) (sym (at-longer front history some begins commits made))
          ∙ since commits fresh (omega (arith, made, count-longer front history some begins))

      by_fetched : IsSince history trimmed a → (f : Bool) → updates_block fetched a.block ≡ f → IsOrNone (value_at (latest history) a) (known_object n fetched a)
      by_fetched since true is = subst (IsOrNone (value_at (latest history) a)) (sym (known_named n fetched a is)) (value_fetched since is)
      by_fetched since false is = subst (IsOrNone (value_at (latest history) a)) (sym (ap (λ (t : Bool). cond t (Some (object_or_zeros n (updated fetched a.block []) a)) None) is)) tt

      by : (b : Bool) → updates_block us a.block ≡ b → IsOrNone (value_at (latest history) a) (known_object n (fetched ++ us) a)
      by true is = subst (IsOrNone (value_at (latest history) a)) (sym (known_later n fetched us a is ∙ known_named n us a is))
          (subst (IsLastSince history trimmed a) (known_named n us a is) (all.last a valid))
      by false is = subst (IsOrNone (value_at (latest history) a)) (sym (known_before n fetched us a is))
          (by_fetched (subst (IsLastSince history trimmed a) (ap (λ (t : Bool). cond t (Some (object_or_zeros n (updated us a.block []) a)) None) is) (all.last a valid))
          (updates_block fetched a.block) refl)

  pub latest_fetched : AreObjectsOf n (latest history) (fetched ++ us)
  latest_fetched = record { values = fetched_latest }

-- ---- what memory knows with the copies of home blocks

-- what makes no other has the same objects
pub objects_no_other : (n : Shape) (m : Map) (earlier later : List Update) → MakesNoOther earlier later → AreObjectsOf n m earlier → AreObjectsOf n m later
objects_no_other n m earlier later fewer are = record { values = λ a valid. by a (updates_block later a.block) refl (are.values a valid) }
  where
    by : (a : Addr) (b : Bool) → updates_block later a.block ≡ b → IsOrNone (value_at m a) (known_object n earlier a) → IsOrNone (value_at m a) (known_object n later a)
    by a true is was = subst (IsOrNone (value_at m a))
        (known_named n earlier a (fewer.blocks a.block is) ∙ ap (λ (bytes : Bytes). Some (object_or_zeros n bytes a)) (sym (fewer.content a.block [] is)) ∙ sym (known_named n later a is)) was
    by a false is was = subst (IsOrNone (value_at m a)) (sym (ap (λ (t : Bool). cond t (Some (object_or_zeros n (updated later a.block []) a)) None) is)) tt

module _ (n : Shape) (m : Map) (first second us : List Update) (one : AreObjectsOf n m (first ++ us)) (other : AreObjectsOf n m (second ++ us)) where
  both_objects : (a : Addr) → IsTrue (is_valid n a) → IsOrNone (value_at m a) (known_object n (first ++ (second ++ us)) a)
  both_objects a valid = by (updates_block (second ++ us) a.block) refl
    where
      by : (b : Bool) → updates_block (second ++ us) a.block ≡ b → IsOrNone (value_at m a) (known_object n (first ++ (second ++ us)) a)
      by true is = subst (IsOrNone (value_at m a)) (sym (known_later n first (second ++ us) a is)) (other.values a valid)
      by false is =
          let none = or_parts (updates_block second a.block) (updates_block us a.block) (sym (updates_block-append second us a.block) ∙ is) in
          subst (IsOrNone (value_at m a)) (known_before n first us a none.1 ∙ sym (known_before n first (second ++ us) a is)) (one.values a valid)

  -- some updates before each of two have the objects of both
  pub objects_both : AreObjectsOf n m (first ++ (second ++ us))
  objects_both = record { values = both_objects }

-- what is kept of copies and of fetched blocks has the objects of both
pub objects_kept : (n : Shape) (m : Map) (home fetched later us : List Update) → AreObjectsOf n m (home ++ us) → AreObjectsOf n m (fetched ++ us)
    → MakesNoOther (home ++ fetched) later → AreObjectsOf n m (later ++ us)
objects_kept n m home fetched later us at_home are fewer =
    objects_no_other n m ((home ++ fetched) ++ us) (later ++ us) (no_other_behind (home ++ fetched) later us fewer)
    (subst (AreObjectsOf n m) (sym (append_assoc home fetched us)) (objects_both n m home fetched us at_home are))

-- with the updates of a commit behind
pub objects_commit : (n : Shape) (m : Map) (writes : List Pair) (us prepared : List Update) → ((b : ℕ) → updates_block prepared b ≡ writes_block writes b)
    → AreObjectsOf n (overwritten m writes) prepared → AreObjectsOf n m us → AreObjectsOf n (overwritten m writes) (us ++ prepared)
objects_commit n m writes us prepared named written are = record { values = λ a valid. by a valid (updates_block prepared a.block) refl }
  where
    by : (a : Addr) → IsTrue (is_valid n a) → (b : Bool) → updates_block prepared a.block ≡ b → IsOrNone (value_at (overwritten m writes) a) (known_object n (us ++ prepared) a)
    by a valid true is = subst (IsOrNone (value_at (overwritten m writes) a)) (sym (known_later n us prepared a is)) (written.values a valid)
    by a valid false is =
        subst (λ (v : Value). IsOrNone v (known_object n (us ++ prepared) a)) (sym (value_unwritten m writes a (sym (named a.block) ∙ is)))
        (subst (IsOrNone (value_at m a)) (sym (known_before n us prepared a is)) (are.values a valid))

-- the same updates in a log
pub objects_appended : (n : Shape) (m : Map) (home : List Update) (log : LogState) (prepared : List Update) → AreObjectsOf n m ((home ++ log.updates) ++ prepared)
    → AreObjectsOf n m (home ++ (appended log prepared).updates)
objects_appended n m home log prepared are = record {
  values = λ a valid. subst (IsOrNone (value_at m a)) (sym (known_appended n home log prepared a)) (are.values a valid);
}
