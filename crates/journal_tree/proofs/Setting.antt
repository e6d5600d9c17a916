-- What SETATTR, WRITE and CREATE make of a node that is there.
use Rattle.std.proofs.Common.{◌≡◌, ℕ, ◌+◌, ◌≤◌, ◌==◌, Bool, true, false, not, ◌&&◌, ◌||◌, List, length, Option, Some, None, refl, sym, ap, subst, ◌⊎◌, inl, inr, ◌∙◌}
use Rattle.std.specs.Prelude.{is_some, is_none, unwrap_or}
use Rattle.std.proofs.lemmas.Bool.{eqb-true, and_parts, or_cases, or_parts, not-true, true≢false, false≢true}
use Rattle.journal_tree.specs.declared.limits.TheConstants.{MOST_BYTES}
use Rattle.journal_tree.specs.declared.time.Time.{Time}
use Rattle.journal_tree.specs.declared.reply.Attributes.{Attributes}
use Rattle.journal_tree.specs.declared.settings.Settings.{Settings}
use Rattle.journal_tree.specs.Trees.{Body, Node, places_of}
use Rattle.journal_tree.specs.Trees.Body.{directory, file, link}
use Rattle.journal_tree.specs.Times.{time_of_change}
use Rattle.journal_tree.specs.declared.caller.Caller.{Caller}
use Rattle.journal_tree.specs.Callers.{is_root, is_member}
use Rattle.journal_tree.specs.Rights.{is_owner, may_store, may_rename}
use Rattle.journal_tree.specs.Attributes.{resized_body, with_settings, asked_mode, becomes_plain, is_no_time, is_too_big, is_client_time, is_server_time, asks_as_owner, keeps_owner, may_give, may_set, may_set_bytes}
use Rattle.journal_tree.specs.Calls.{kind_of}
use Rattle.journal_tree.specs.Contents.{overlaid, written}
use Rattle.journal_tree.specs.Names.{size_alone}
use Rattle.journal_tree.specs.Fit.{IsFitBody, IsAsked}
use Rattle.journal_tree.specs.Laws.{IsRightful}
use Rattle.journal_tree.proofs.Steps.{Known, IsChange}
use Rattle.journal_tree.proofs.Bounds.{change-fits, mtime-fits, asked-low, choice-low, written-low, or-word, resized-fits, length-overlaid}

-- what is asked where nothing of the owner's is asked
none_of : (o : Option ℕ) (old : ℕ) → is_some o ≡ false → unwrap_or o old ≡ old
none_of None old e = refl
none_of (Some n) old e = absurd (true≢false e)

kept_owner : (o : Option ℕ) (a : Attributes) → keeps_owner o a ≡ true → unwrap_or o a.owner ≡ a.owner
kept_owner None a e = refl
kept_owner (Some n) a e = eqb-true n a.owner e

given_group : (c : Caller) (o : Option ℕ) (a : Attributes) → may_give c o a ≡ true → (unwrap_or o a.group ≡ a.group) ⊎ (is_member c (unwrap_or o a.group) ≡ true)
given_group c None a e = inl refl
given_group c (Some n) a e = by (or_cases (n == a.group) (is_member c n) e)
  where
    by : ((n == a.group) ≡ true) ⊎ (is_member c n ≡ true) → (n ≡ a.group) ⊎ (is_member c n ≡ true)
    by (inl same) = inl (eqb-true n a.group same)
    by (inr member) = inr member

same_body : (b : Body) → resized_body b None ≡ b
same_body (directory places) = refl
same_body (file bytes) = refl
same_body (link text) = refl

same_places : (b : Body) (size : Option ℕ) → places_of (resized_body b size) ≡ places_of b
same_places (directory places) size = refl
same_places (file bytes) size = refl
same_places (link text) size = refl

-- who is not root, and may set what he asks
owns : (c : Caller) (s : Settings) (a : Attributes) → is_root c ≡ false → may_set c s a ≡ true → (asks_as_owner s ≡ false) ⊎ ((is_owner c a ≡ true) × (keeps_owner s.owner a ≡ true) × (may_give c s.group a ≡ true))
owns c s a other may = outer (or_cases (is_root c || not (asks_as_owner s)) (is_owner c a && keeps_owner s.owner a && may_give c s.group a) may)
  where
    inner : (is_root c ≡ true) ⊎ (not (asks_as_owner s) ≡ true) → (asks_as_owner s ≡ false) ⊎ ((is_owner c a ≡ true) × (keeps_owner s.owner a ≡ true) × (may_give c s.group a ≡ true))
    inner (inl root) = absurd (false≢true (sym other ∙ root))
    inner (inr asks) = inl (not-true (asks_as_owner s) asks)

    outer : ((is_root c || not (asks_as_owner s)) ≡ true) ⊎ ((is_owner c a && keeps_owner s.owner a && may_give c s.group a) ≡ true) → (asks_as_owner s ≡ false) ⊎ ((is_owner c a ≡ true) × (keeps_owner s.owner a ≡ true) × (may_give c s.group a ≡ true))
    outer (inl first) = inner (or_cases (is_root c) (not (asks_as_owner s)) first)
    outer (inr owner) =
        let p = and_parts (is_owner c a && keeps_owner s.owner a) (may_give c s.group a) owner in
        let q = and_parts (is_owner c a) (keeps_owner s.owner a) p.0 in
        inr (q.0, q.1, p.1)

-- and may store the bytes that he asks
stores : (c : Caller) (size : Option ℕ) (asked : Bool) (a : Attributes) (b : Body) → (is_none size && not asked || may_store c a) ≡ true
    → (resized_body b size ≡ b) ⊎ (may_store c a ≡ true) ⊎ (may_rename c a ≡ true)
stores c None asked a b may = inl (same_body b)
stores c (Some n) asked a b may = by (or_cases false (may_store c a) may)
  where
    by : (false ≡ true) ⊎ (may_store c a ≡ true) → (resized_body b (Some n) ≡ b) ⊎ (may_store c a ≡ true) ⊎ (may_rename c a ≡ true)
    by (inl never) = absurd (false≢true never)
    by (inr may) = inr (inl may)

settings-rightful : (c : Caller) (s : Settings) (x : Node) (now : Time) → may_set c s x.attributes ≡ true → may_set_bytes c s x.attributes ≡ true → is_root c ≡ false → IsRightful c x (with_settings c s x now)
settings-rightful c s x now may may_bytes other = by (owns c s x.attributes other may)
  where
    bytes : (resized_body x.body s.size ≡ x.body) ⊎ (may_store c x.attributes ≡ true) ⊎ (may_rename c x.attributes ≡ true)
    bytes = stores c s.size (is_server_time s.mtime) x.attributes x.body may_bytes

    given : is_owner c x.attributes ≡ true → (unwrap_or s.group x.attributes.group ≡ x.attributes.group) ⊎ (is_member c (unwrap_or s.group x.attributes.group) ≡ true)
        → (unwrap_or s.group x.attributes.group ≡ x.attributes.group) ⊎ ((is_owner c x.attributes ≡ true) × (is_member c (unwrap_or s.group x.attributes.group) ≡ true))
    given owner (inl same) = inl same
    given owner (inr member) = inr (owner, member)

    by : (asks_as_owner s ≡ false) ⊎ ((is_owner c x.attributes ≡ true) × (keeps_owner s.owner x.attributes ≡ true) × (may_give c s.group x.attributes ≡ true)) → IsRightful c x (with_settings c s x now)
    by (inl asks) =
        let p = or_parts (is_some s.mode || is_some s.owner || is_some s.group) (is_client_time s.mtime) asks in
        let q = or_parts (is_some s.mode || is_some s.owner) (is_some s.group) p.0 in
        let r = or_parts (is_some s.mode) (is_some s.owner) q.0 in
        record { owner = none_of s.owner x.attributes.owner r.1; group = inl (none_of s.group x.attributes.group q.1); bytes = bytes }
    by (inr o) = record {
      owner = kept_owner s.owner x.attributes o.1;
      group = given o.0 (given_group c s.group x.attributes o.2);
      bytes = bytes;
    }

pub settings-change : (R : Known) (c : Caller) (now : Time) (s : Settings) (x : Node) → (R.bounds → IsAsked s) → is_no_time s.mtime ≡ false → is_too_big s.size ≡ false
    → may_set c s x.attributes ≡ true → may_set_bytes c s x.attributes ≡ true → IsChange R c now x (with_settings c s x now)
settings-change R c now s x asked shown few may may_bytes = record {
  home = refl;
  places = same_places x.body s.size;
  ctime = refl;
  verifier = refl;
  fit = λ r moment fit. (
      let time = change-fits x.attributes.ctime now fit.ctime moment in
      record {
        home = fit.home;
        place = fit.place;
        body = resized-fits x.body s.size few fit.body;
        mode = choice-low (becomes_plain c s (kind_of x.body)) (asked_mode c s.mode (unwrap_or s.group x.attributes.group) x.attributes.mode) 4096 (asked-low c s.mode (unwrap_or s.group x.attributes.group) x.attributes.mode fit.mode);
        owner = or-word s.owner x.attributes.owner (asked r).owner fit.owner;
        group = or-word s.group x.attributes.group (asked r).group fit.group;
        mtime = mtime-fits (is_some s.size) s.mtime (time_of_change x.attributes.ctime now) x.attributes.mtime shown (asked r).mtime time fit.mtime;
        ctime = time;
        verifier = tt;
      });
  rights = settings-rightful c s x now may may_bytes;
}

-- a size alone
pub size-change : (R : Known) (c : Caller) (now : Time) (size : Option ℕ) (x : Node) → is_too_big size ≡ false → may_store c x.attributes ≡ true → IsChange R c now x (with_settings c (size_alone size) x now)
size-change R c now size x few may = settings-change R c now (size_alone size) x (λ r. record { owner = tt; group = tt; mtime = tt }) refl few asks stored
  where
    asks : may_set c (size_alone size) x.attributes ≡ true
    asks = by (is_root c)
      where
        by : (b : Bool) → (b || true || is_owner c x.attributes && true && true) ≡ true
        by true = refl
        by false = refl

    stored : may_set_bytes c (size_alone size) x.attributes ≡ true
    stored = by (is_none size && true)
      where
        by : (b : Bool) → (b || may_store c x.attributes) ≡ true
        by true = refl
        by false = may

pub write-change : (R : Known) (c : Caller) (now : Time) (x : Node) (bytes : List ℕ) (offset : ℕ) (bs : List ℕ) → x.body ≡ file bytes → offset + length bs ≤ MOST_BYTES → may_store c x.attributes ≡ true
    → IsChange R c now x (written c x (overlaid bytes offset bs) now)
write-change R c now x bytes offset bs body few may = record {
  home = refl;
  places = sym (ap places_of body);
  ctime = refl;
  verifier = refl;
  fit = λ r moment fit. (
      let time = change-fits x.attributes.ctime now fit.ctime moment in
      record {
        home = fit.home;
        place = fit.place;
        body = length-overlaid bytes offset bs MOST_BYTES (old x.body body fit.body) few;
        mode = written-low c x.attributes.mode fit.mode;
        owner = fit.owner;
        group = fit.group;
        mtime = time;
        ctime = time;
        verifier = tt;
      });
  rights = λ other. record { owner = refl; group = inl refl; bytes = inr (inl may) };
}
  where
    old : (b : Body) → b ≡ file bytes → IsFitBody b → length bytes ≤ MOST_BYTES
    old b e fit = subst IsFitBody e fit
