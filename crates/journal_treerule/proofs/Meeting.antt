-- A walk meets nodes, one after another.
use Rattle.std.proofs.Common.{ℕ, zero, suc, ◌≡◌, ◌≢◌, ◌<◌, ◌≤◌, ◌+◌, ◌&&◌, Bool, true, false, cond, List, [], ◌∷◌, ◌++◌, length, get_or, Option, Some, None, refl, sym, ap, subst, ◌⊎◌, inl, inr, ◌∙◌, length-append, arith}
use Rattle.std.specs.Prelude.{Contains, slice_set, All, IsTrue, MatchOption}
use Rattle.std.specs.List.{AllByRecursion}
use Rattle.std.proofs.lemmas.Bool.{cases_eq, cases_lt, and_parts, false≢true}
use Rattle.std.proofs.lemmas.List.{get_or_append_left, length-set}
use Rattle.std.proofs.lemmas.List.Elements.{recursion_from_All, All-weaker, All-contains_itself, Contains-append_left, Contains-push, Contains-push_cases, Contains-get_or}
use Rattle.journal_world.specs.Maps.{Map}
use Rattle.journal_tree.specs.declared.limits.TheConstants.{ROOT, MOST_PLACES}
use Rattle.journal_tree.specs.Links.{IsReached}
use Rattle.journal_tree.specs.Links.IsReached.{the_root, by_entry}
use Rattle.journal_treestore.specs.declared.place.Cut.{Cut}
use Rattle.journal_treeobjects.specs.Maps.{view_of}
use Rattle.journal_treestore.specs.Views.{Held, Seen, View, entry_at}
use Rattle.journal_treestore.specs.Views.Seen.{free, used}
use Rattle.journal_treerule.specs.declared.children.Child.{Child}
use Rattle.journal_treerule.specs.Parts.{AreInodesRight, is_used, AreInUse}
use Rattle.journal_treerule.specs.Directories.{is_directory, child_of, IsChild, AreChildren, IsSoundDirectory, AreBelow}
use Rattle.journal_treerule.specs.Walks.{links_of, waiting_after, queue_after, waiting_after_all, queue_after_all, IsQueueBelow, count_waiting, IsMet, IsReadThrough, HasMet, IsWalked}
use Rattle.journal_treerule.proofs.Disks.{IsDisk}
use Rattle.journal_treerule.proofs.Scanning.{at-before}
use Rattle.journal_treerule.proofs.Seconds.{own-at}
use Rattle.journal_treerule.proofs.Trees.{is-directory, right-node, root-used}

-- ── the table ──

clear-same : (ws : List Bool) (k : ℕ) → get_or (slice_set ws k false) k false ≡ false
clear-same [] k = refl
clear-same (w ∷ ws) zero = refl
clear-same (w ∷ ws) (suc k) = clear-same ws k

clear-other : (ws : List Bool) (k j : ℕ) → k ≢ j → get_or (slice_set ws j false) k false ≡ get_or ws k false
clear-other [] k j ne = refl
clear-other (w ∷ ws) zero zero ne = absurd (ne refl)
clear-other (w ∷ ws) zero (suc j) ne = refl
clear-other (w ∷ ws) (suc k) zero ne = refl
clear-other (w ∷ ws) (suc k) (suc j) ne = clear-other ws k j (λ e. ne (ap suc e))

-- one that does not wait does not wait later
clear-stays : (ws : List Bool) (k j : ℕ) → get_or ws k false ≡ false → get_or (slice_set ws j false) k false ≡ false
clear-stays ws k j clear = by (cases_eq k j)
  where
    by : (k ≡ j) ⊎ (k ≡ j → ⊥) → get_or (slice_set ws j false) k false ≡ false
    by (inl e) = ap (λ i. get_or (slice_set ws j false) i false) e ∙ clear-same ws j
    by (inr ne) = clear-other ws k j ne ∙ clear

clear-was : (ws : List Bool) (k j : ℕ) → get_or (slice_set ws j false) k false ≡ true → get_or ws k false ≡ true
clear-was ws k j set = by (cases_eq k j)
  where
    by : (k ≡ j) ⊎ (k ≡ j → ⊥) → get_or ws k false ≡ true
    by (inl e) = absurd (false≢true (sym (ap (λ i. get_or (slice_set ws j false) i false) e ∙ clear-same ws j) ∙ set))
    by (inr ne) = sym (clear-other ws k j ne) ∙ set

count-set : (ws : List Bool) (k : ℕ) → get_or ws k false ≡ true → count_waiting (slice_set ws k false) + 1 ≡ count_waiting ws
count-set [] k set = absurd (false≢true set)
count-set (true ∷ ws) zero set = refl
count-set (false ∷ ws) zero set = absurd (false≢true set)
count-set (true ∷ ws) (suc k) set = ap (λ n. n + 1) (count-set ws k set)
count-set (false ∷ ws) (suc k) set = count-set ws k set

count-clear : (ws : List Bool) (k : ℕ) → get_or ws k false ≡ false → count_waiting (slice_set ws k false) ≡ count_waiting ws
count-clear [] k clear = refl
count-clear (true ∷ ws) zero clear = absurd (false≢true (sym clear))
count-clear (false ∷ ws) zero clear = refl
count-clear (true ∷ ws) (suc k) clear = ap (λ n. n + 1) (count-clear ws k clear)
count-clear (false ∷ ws) (suc k) clear = count-clear ws k clear

count-few : (ws : List Bool) → count_waiting ws ≤ length ws
count-few [] = omega arith
count-few (true ∷ ws) = let r = count-few ws in omega (arith, r)
count-few (false ∷ ws) = let r = count-few ws in omega (arith, r)

get-far : (ws : List Bool) (k : ℕ) → length ws ≤ k → get_or ws k false ≡ false
get-far [] k far = refl
get-far (w ∷ ws) zero far = absurd (omega (arith, far))
get-far (w ∷ ws) (suc k) far = get-far ws k (omega (arith, far))

-- ── the queue ──

-- the queue after a node is as before, or has it at its end
queue-cases : (ws : List Bool) (q : List ℕ) (x : Child) → (queue_after ws q x ≡ q) ⊎ ((get_or ws x.number false ≡ true) × (queue_after ws q x ≡ q ++ x.number ∷ []))
queue-cases ws q x = by (get_or ws x.number false) refl x.is_directory refl
  where
    by : (w : Bool) → get_or ws x.number false ≡ w → (d : Bool) → x.is_directory ≡ d → (queue_after ws q x ≡ q) ⊎ ((get_or ws x.number false ≡ true) × (queue_after ws q x ≡ q ++ x.number ∷ []))
    by false w d is = inl (ap (λ b. cond (b && x.is_directory) (q ++ x.number ∷ []) q) w)
    by true w false is = inl (ap (λ b. cond (b && x.is_directory) (q ++ x.number ∷ []) q) w ∙ ap (λ b. cond b (q ++ x.number ∷ []) q) is)
    by true w true is = inr (w, ap (λ b. cond (b && x.is_directory) (q ++ x.number ∷ []) q) w ∙ ap (λ b. cond b (q ++ x.number ∷ []) q) is)

-- a directory that waited is in the queue then
queued-now : (ws : List Bool) (q : List ℕ) (x : Child) → get_or ws x.number false ≡ true → x.is_directory ≡ true → Contains (queue_after ws q x) x.number
queued-now ws q x w is =
    subst (λ p. Contains p x.number) (sym (ap (λ b. cond (b && x.is_directory) (q ++ x.number ∷ []) q) w ∙ ap (λ b. cond b (q ++ x.number ∷ []) q) is)) (Contains-push q x.number)

queued-stays : (ws : List Bool) (q : List ℕ) (x : Child) (n : ℕ) → Contains q n → Contains (queue_after ws q x) n
queued-stays ws q x n has = by (queue-cases ws q x)
  where
    by : (queue_after ws q x ≡ q) ⊎ ((get_or ws x.number false ≡ true) × (queue_after ws q x ≡ q ++ x.number ∷ [])) → Contains (queue_after ws q x) n
    by (inl same) = subst (λ p. Contains p n) (sym same) has
    by (inr more) = subst (λ p. Contains p n) (sym more.1) (Contains-append_left q (x.number ∷ []) n has)

-- The places of one queue are those of another, which goes on
record GoesOn (old new : List ℕ) : Type 0 where
  pub same : (k : ℕ) → k < length old → get_or new k 0 ≡ get_or old k 0
  pub longer : length old ≤ length new

goes-on : (ws : List Bool) (q : List ℕ) (x : Child) → GoesOn q (queue_after ws q x)
goes-on ws q x = by (queue-cases ws q x)
  where
    pushed : GoesOn q (q ++ x.number ∷ [])
    pushed = record {
      same = λ k low. get_or_append_left q (x.number ∷ []) 0 k low;
      longer = let l = length-append q (x.number ∷ []) in omega (arith, l);
    }

    by : (queue_after ws q x ≡ q) ⊎ ((get_or ws x.number false ≡ true) × (queue_after ws q x ≡ q ++ x.number ∷ [])) → GoesOn q (queue_after ws q x)
    by (inl same) = subst (GoesOn q) (sym same) (record { same = λ k low. refl; longer = omega arith })
    by (inr more) = subst (GoesOn q) (sym more.1) pushed

goes-on-all : (ws : List Bool) (q : List ℕ) (xs : List Child) → GoesOn q (queue_after_all ws q xs)
goes-on-all ws q [] = record { same = λ k low. refl; longer = omega arith }
goes-on-all ws q (x ∷ xs) =
    let one = goes-on ws q x in
    let more = goes-on-all (waiting_after ws x) (queue_after ws q x) xs in
    record {
      same = λ k low. more.same k (let l = one.longer in omega (arith, low, l)) ∙ one.same k low;
      longer = let a = one.longer in let b = more.longer in omega (arith, a, b);
    }

stays-all : (ws : List Bool) (xs : List Child) (n : ℕ) → get_or ws n false ≡ false → get_or (waiting_after_all ws xs) n false ≡ false
stays-all ws [] n clear = clear
stays-all ws (x ∷ xs) n clear = stays-all (waiting_after ws x) xs n (clear-stays ws n x.number clear)

-- none of those that are met waits then
met-all : (ws : List Bool) (xs : List Child) (d : Child) (k : ℕ) → k < length xs → get_or (waiting_after_all ws xs) (get_or xs k d).number false ≡ false
met-all ws [] d k low = absurd (omega (arith, low))
met-all ws (x ∷ xs) d zero low = stays-all (waiting_after ws x) xs x.number (clear-same ws x.number)
met-all ws (x ∷ xs) d (suc k) low = met-all (waiting_after ws x) xs d k (omega (arith, low))

pub met-child : (ws : List Bool) (xs : List Child) (x : Child) → Contains xs x → get_or (waiting_after_all ws xs) x.number false ≡ false
met-child ws xs x has = ap (λ (y : Child). get_or (waiting_after_all ws xs) y.number false) (sym has.2) ∙ met-all ws xs x has.0 has.1

-- the directories that are put into the queue have numbers of the disk too
pub queue-below-one : (most : ℕ) (ws : List Bool) (q : List ℕ) (x : Child) → IsQueueBelow most q → x.number < most → IsQueueBelow most (queue_after ws q x)
queue-below-one most ws q x below low n has = by (queue-cases ws q x)
  where
    last : Contains q n ⊎ (x.number ≡ n) → n < most
    last (inl before) = below n before
    last (inr is) = subst (λ k. k < most) is low

    by : (queue_after ws q x ≡ q) ⊎ ((get_or ws x.number false ≡ true) × (queue_after ws q x ≡ q ++ x.number ∷ [])) → n < most
    by (inl same) = below n (subst (λ p. Contains p n) same has)
    by (inr more) = last (Contains-push_cases q x.number n (subst (λ p. Contains p n) more.1 has))

queue-below-each : (most : ℕ) (ws : List Bool) (q : List ℕ) (xs : List Child) → IsQueueBelow most q → AllByRecursion (λ (x : Child). x.number < most) xs → IsQueueBelow most (queue_after_all ws q xs)
queue-below-each most ws q [] below all = below
queue-below-each most ws q (x ∷ xs) below all = queue-below-each most (waiting_after ws x) (queue_after ws q x) xs (queue-below-one most ws q x below all.0) all.1

pub queue-below-all : (most : ℕ) (ws : List Bool) (q : List ℕ) (xs : List Child) → IsQueueBelow most q → AreBelow most xs → IsQueueBelow most (queue_after_all ws q xs)
queue-below-all most ws q xs below all = queue-below-each most ws q xs below (recursion_from_All (λ (x : Child). x.number < most) xs all)

-- the table stays as long as it was
pub length-after-all : (ws : List Bool) (xs : List Child) → length (waiting_after_all ws xs) ≡ length ws
length-after-all ws [] = refl
length-after-all ws (x ∷ xs) = length-after-all (waiting_after ws x) xs ∙ length-set ws x.number false

-- ── a walk ──

-- What an entry of a directory that is reached names
pub record IsReachedChild (V : View) (x : Child) : Type 0 where
  pub is_directory_is : x.is_directory ≡ is_directory (V.inode x.number)
  pub reached : IsReached (links_of V) x.number

more-few : (old new count waiting most : ℕ) → new ≡ old + 1 → count + 1 ≡ waiting → old + waiting ≤ most → new + count ≤ most
more-few old new count waiting most pushed less few = omega (arith, pushed, less, few)

fewer-few : (old count waiting most : ℕ) → count ≤ waiting → old + waiting ≤ most → old + count ≤ most
fewer-few old count waiting most less few = omega (arith, less, few)

pub meet-one : (V : View) (ws : List Bool) (q : List ℕ) (x : Child) → HasMet V ws q → IsReachedChild V x → HasMet V (waiting_after ws x) (queue_after ws q x)
meet-one V ws q x has child = record {
  met = λ n is clear. met n is clear (cases_eq n x.number);
  waits = λ n waits. has.waits n (clear-was ws n x.number waits);
  reached = λ n in_queue. reached n in_queue (queue-cases ws q x);
  few = few (queue-cases ws q x);
}
  where
    was : (w : Bool) → get_or ws x.number false ≡ w → is_used (V.inode x.number) ≡ true → IsMet V (queue_after ws q x) x.number
    was true w is = record {
      reached = child.reached;
      queued = λ dir. queued-now ws q x w (child.is_directory_is ∙ dir);
    }
    was false w is = record {
      reached = child.reached;
      queued = λ dir. queued-stays ws q x x.number ((has.met x.number is w).queued dir);
    }

    met : (n : ℕ) → is_used (V.inode n) ≡ true → get_or (waiting_after ws x) n false ≡ false → (n ≡ x.number) ⊎ (n ≡ x.number → ⊥) → IsMet V (queue_after ws q x) n
    met n is clear (inl e) = subst (IsMet V (queue_after ws q x)) (sym e) (was (get_or ws x.number false) refl (ap (λ k. is_used (V.inode k)) (sym e) ∙ is))
    met n is clear (inr ne) =
        let m = has.met n is (sym (clear-other ws n x.number ne) ∙ clear) in
        record { reached = m.reached; queued = λ dir. queued-stays ws q x n (m.queued dir) }

    reached : (n : ℕ) → Contains (queue_after ws q x) n → (queue_after ws q x ≡ q) ⊎ ((get_or ws x.number false ≡ true) × (queue_after ws q x ≡ q ++ x.number ∷ [])) → IsReached (links_of V) n
    reached n in_queue (inl same) = has.reached n (subst (λ p. Contains p n) same in_queue)
    reached n in_queue (inr more) = last (Contains-push_cases q x.number n (subst (λ p. Contains p n) more.1 in_queue))
      where
        last : Contains q n ⊎ (x.number ≡ n) → IsReached (links_of V) n
        last (inl before) = has.reached n before
        last (inr e) = subst (IsReached (links_of V)) e child.reached

    less : (w : Bool) → get_or ws x.number false ≡ w → count_waiting (waiting_after ws x) ≤ count_waiting ws
    less true w = let c = count-set ws x.number w in omega (arith, c)
    less false w = let c = count-clear ws x.number w in omega (arith, c)

    few : (queue_after ws q x ≡ q) ⊎ ((get_or ws x.number false ≡ true) × (queue_after ws q x ≡ q ++ x.number ∷ [])) → length (queue_after ws q x) + count_waiting (waiting_after ws x) ≤ V.numbers
    few (inl same) =
        subst (λ (p : List ℕ). length p + count_waiting (waiting_after ws x) ≤ V.numbers) (sym same)
        (fewer-few (length q) (count_waiting (waiting_after ws x)) (count_waiting ws) V.numbers (less (get_or ws x.number false) refl) has.few)
    few (inr more) =
        more-few (length q) (length (queue_after ws q x)) (count_waiting (waiting_after ws x)) (count_waiting ws) V.numbers
        (ap length more.1 ∙ length-append q (x.number ∷ [])) (count-set ws x.number more.0) has.few

meet-all : (V : View) (ws : List Bool) (q : List ℕ) (xs : List Child) → HasMet V ws q → AllByRecursion (IsReachedChild V) xs → HasMet V (waiting_after_all ws xs) (queue_after_all ws q xs)
meet-all V ws q [] has all = has
meet-all V ws q (x ∷ xs) has all = meet-all V (waiting_after ws x) (queue_after ws q x) xs (meet-one V ws q x has all.0) all.1

-- the walk begins: all that is in use waits
pub walk-begins : (V : View) (ws : List Bool) → IsDisk V → AreInUse V V.numbers ws → length ws ≡ V.numbers → HasMet V ws []
walk-begins V ws disk in_use whole = record {
  met = λ n is clear. absurd (met n is clear (cases_lt n V.numbers));
  waits = λ n waits. waits_used n waits (cases_lt n V.numbers);
  reached = λ n has. absurd (let low : has.0 < 0 = has.1 in omega (arith, low));
  few = let c = count-few ws in omega (arith, c, whole);
}
  where
    met : (n : ℕ) → is_used (V.inode n) ≡ true → get_or ws n false ≡ false → (n < V.numbers) ⊎ (V.numbers ≤ n) → ⊥
    met n is clear (inl low) = false≢true (sym clear ∙ in_use n low ∙ is)
    met n is clear (inr high) = false≢true (sym (ap is_used (disk.beyond n high)) ∙ is)

    waits_used : (n : ℕ) → get_or ws n false ≡ true → (n < V.numbers) ⊎ (V.numbers ≤ n) → is_used (V.inode n) ≡ true
    waits_used n waits (inl low) = sym (in_use n low) ∙ waits
    waits_used n waits (inr high) = absurd (false≢true (sym (get-far ws n (omega (arith, whole, high))) ∙ waits))

-- it has met the root
pub walk-at-root : (V : View) (ws : List Bool) (root : Child) → HasMet V ws [] → root.number ≡ ROOT → root.is_directory ≡ is_directory (V.inode ROOT) → IsWalked V (waiting_after ws root) (queue_after ws [] root) 0
walk-at-root V ws root has is kind = record {
  met = meet-one V ws [] root has (record { is_directory_is = kind ∙ ap (λ n. is_directory (V.inode n)) (sym is); reached = subst (IsReached (links_of V)) (sym is) the_root });
  root = ap (λ n. get_or (waiting_after ws root) n false) (sym is) ∙ clear-same ws root.number;
  read = λ k low. absurd (omega (arith, low));
}

-- it has read one more directory
pub walk-more : (V : View) (ws : List Bool) (q : List ℕ) (done : ℕ) (xs : List Child) → IsWalked V ws q done → done < length q
    → IsSoundDirectory V (get_or q done 0) → AreChildren V (get_or q done 0) MOST_PLACES xs → IsWalked V (waiting_after_all ws xs) (queue_after_all ws q xs) (done + 1)
walk-more V ws q done xs w low sound children = record {
  met = meet-all V ws q xs w.met (recursion_from_All (IsReachedChild V) xs (All-weaker (Contains xs) (IsReachedChild V) reached xs (All-contains_itself xs)));
  root = stays-all ws xs ROOT w.root;
  read = λ k below inside. read k below (cases_eq k done);
}
  where
    d : ℕ
    d = get_or q done 0

    reached : (x : Child) → Contains xs x → IsReachedChild V x
    reached x has =
        let c = children.only x has in
        let number : (entry_at V d c.place).number ≡ x.number = ap (λ (y : Child). y.number) c.is in
        record {
          is_directory_is = sym (ap (λ (y : Child). y.is_directory) c.is) ∙ ap (λ n. is_directory (V.inode n)) number;
          reached = by_entry d c.place x.number (w.met.reached d (Contains-get_or q done 0 low)) (own-at V d c.place c.name c.own ∙ ap Some number);
        }

    later : (k : ℕ) → IsReadThrough V ws k → IsReadThrough V (waiting_after_all ws xs) k
    later k r = record { sound = r.sound; met = λ place name few own. stays-all ws xs (entry_at V k place).number (r.met place name few own) }

    now : IsReadThrough V (waiting_after_all ws xs) d
    now = record { sound = sound; met = λ place name few own. met-child ws xs (child_of V (entry_at V d place).number) (children.all place name few own) }

    read : (k : ℕ) → k < done + 1 → (k ≡ done) ⊎ (k ≡ done → ⊥) → IsReadThrough V (waiting_after_all ws xs) (get_or (queue_after_all ws q xs) k 0)
    read k below (inl e) =
        subst (IsReadThrough V (waiting_after_all ws xs)) (sym (ap (λ i. get_or (queue_after_all ws q xs) i 0) e ∙ (goes-on-all ws q xs).same done low)) now
    read k below (inr ne) =
        let first : k < done = omega (arith, below, ne) in
        let inside : k < length q = omega (arith, first, low) in
        subst (IsReadThrough V (waiting_after_all ws xs)) (sym ((goes-on-all ws q xs).same k inside)) (later (get_or q k 0) (w.read k first inside))

-- ── as the code has it ──

-- what the code has of the table and of the queue
pub walk-first : (V : View) (before ws : List Bool) (q : List ℕ) (root : Child) → IsDisk V → AreInodesRight V V.numbers → AreInUse V V.numbers before → length before ≡ V.numbers → root ≡ record { number = ROOT; is_directory = true }
    → ws ≡ waiting_after before root → q ≡ queue_after before [] root → IsWalked V ws q 0
walk-first V before ws q root disk right in_use whole is table queue =
    subst (λ p. IsWalked V ws p 0) (sym queue)
    (subst (λ t. IsWalked V t (queue_after before [] root) 0) (sym table)
    (walk-at-root V before root (walk-begins V before disk in_use whole) (ap (λ (x : Child). x.number) is) (ap (λ (x : Child). x.is_directory) is ∙ sym dir)))
  where
    dir : is_directory (V.inode ROOT) ≡ true
    dir =
        let h = root-used V disk right in
        is-directory V ROOT h.0 h.1 ((right-node V disk right ROOT h.0 h.1).placed.kind refl)

pub walk-next : (V : View) (ws ws2 : List Bool) (q q2 : List ℕ) (done d : ℕ) (xs : List Child) → IsWalked V ws q done → done < length q → d ≡ get_or q done 0 → IsSoundDirectory V d × AreChildren V d MOST_PLACES xs
    → ws2 ≡ waiting_after_all ws xs → q2 ≡ queue_after_all ws q xs → IsWalked V ws2 q2 (done + 1)
walk-next V ws ws2 q q2 done d xs w low at found table queue =
    subst (λ p. IsWalked V ws2 p (done + 1)) (sym queue)
    (subst (λ t. IsWalked V t (queue_after_all ws q xs) (done + 1)) (sym table)
    (walk-more V ws q done xs w low (subst (IsSoundDirectory V) at found.0) (subst (λ k. AreChildren V k MOST_PLACES xs) at found.1)))

-- what was found of a directory, of the map before
module _ {X : Type 0} (items : X → List Child) (c : Cut) (before now : Map) (trusted still : Bool) (same_map : now ≡ before) (same_trust : still ≡ trusted) (d : ℕ) (found : Option X)
    (answer : IsTrue still → AreInodesRight (view_of c now) c.numbers
    → MatchOption found (IsSoundDirectory (view_of c now) d → ⊥) (λ x. IsSoundDirectory (view_of c now) d × AreChildren (view_of c now) d MOST_PLACES (items x))) where
  abbrev IsFound : Map → Option X → Type 0
  IsFound m o = MatchOption o (IsSoundDirectory (view_of c m) d → ⊥) (λ x. IsSoundDirectory (view_of c m) d × AreChildren (view_of c m) d MOST_PLACES (items x))

  of-before : IsTrue trusted → AreInodesRight (view_of c before) c.numbers → IsFound before found
  of-before = at-before (λ m. AreInodesRight (view_of c m) c.numbers → IsFound m found) before now trusted still same_map same_trust answer

  pub listing-none : found ≡ None → IsTrue trusted → AreInodesRight (view_of c before) c.numbers → IsSoundDirectory (view_of c before) d → ⊥
  listing-none is trust right = subst (IsFound before) is (of-before trust right)

  pub listing-some : (x : X) → found ≡ Some x → IsTrue trusted → AreInodesRight (view_of c before) c.numbers → IsSoundDirectory (view_of c before) d × AreChildren (view_of c before) d MOST_PLACES (items x)
  listing-some x is trust right = subst (IsFound before) is (of-before trust right)
