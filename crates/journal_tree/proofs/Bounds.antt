-- What each change leaves within bounds.
use Rattle.std.proofs.Common.{◌≡◌, ℕ, ◌+◌, ◌*◌, ◌/◌, ◌%◌, ◌<◌, ◌≤◌, ◌==◌, Bool, true, false, cond, List, ◌++◌, length, take, Option, Some, None, refl, arith, length-append, length-drop}
use Rattle.std.specs.Prelude.{replicate, nat_lt, if◌then◌else◌, unwrap_or, ◌||◌, ◌-◌}
use Rattle.std.proofs.lemmas.Bool.{ltb-true, ltb-false, leb-false, eqb-false}
use Rattle.std.proofs.lemmas.List.{length-take}
use Rattle.journal_tree.specs.declared.limits.TheConstants.{MOST_BYTES, MOST_PLACES, BLOCK_PLACES, MODES}
use Rattle.journal_tree.specs.declared.time.TheConstants.{NANOS, LAST_SECOND}
use Rattle.journal_tree.specs.declared.time.Time.{Time}
use Rattle.journal_tree.specs.declared.reply.Attributes.{Attributes}
use Rattle.journal_tree.specs.declared.reply.Kind.{Kind}
use Rattle.journal_tree.specs.declared.reply.Kind.TheVariants.{Directory, File, Link}
use Rattle.journal_tree.specs.declared.settings.NewTime.{NewTime}
use Rattle.journal_tree.specs.declared.settings.NewTime.TheVariants.{Leave, Server, Client}
use Rattle.journal_tree.specs.Trees.{Body}
use Rattle.journal_tree.specs.Trees.Body.{directory, file, link}
use Rattle.journal_tree.specs.Times.{IsTime, is_before, is_same_time, following, time_of_change, time_of_names}
use Rattle.journal_tree.specs.declared.caller.Caller.{Caller}
use Rattle.journal_tree.specs.Callers.{is_root, is_member}
use Rattle.journal_tree.specs.Rights.{SET_GROUP_BIT, SET_USER_BIT, GROUP_EXECUTE_BIT, has_bit, without_bit, with_bit}
use Rattle.journal_tree.specs.Changes.{grown, grown_body}
use Rattle.journal_tree.specs.Attributes.{resized_body, new_mtime, plain_mode, group_mode, asked_mode, is_no_time, is_too_big}
use Rattle.journal_tree.specs.Contents.{overlaid, written_mode}
use Rattle.journal_tree.specs.Names.{mode_within}
use Rattle.journal_tree.specs.Fit.{IsWord, IsOptionalWord, IsAskedTime, IsFitBody}

-- ── times ──

pub following-fits : (t : Time) → IsTime t → IsTime (following t)
following-fits t fit = by (nat_lt (t.nanos + 1) NANOS) refl (nat_lt t.secs LAST_SECOND) refl
  where
    by : (b : Bool) → nat_lt (t.nanos + 1) NANOS ≡ b → (e : Bool) → nat_lt t.secs LAST_SECOND ≡ e
        → IsTime (if b then record { secs = t.secs; nanos = t.nanos + 1 } else if e then record { secs = t.secs + 1; nanos = 0 } else t)
    by true is e at = (fit.0, ltb-true (t.nanos + 1) NANOS is)
    by false is true at = let l = ltb-true t.secs LAST_SECOND at in (omega (arith, l), omega arith)
    by false is false at = fit

choice-fits : (b : Bool) (t u : Time) → IsTime t → IsTime u → IsTime (if b then t else u)
choice-fits true t u a b = a
choice-fits false t u a b = b

pub change-fits : (last now : Time) → IsTime last → IsTime now → IsTime (time_of_change last now)
change-fits last now old moment = choice-fits (is_before last now) now (following last) moment (following-fits last old)

pub names-fits : (a : Attributes) (now : Time) → IsTime a.ctime → IsTime now → IsTime (time_of_names a now)
names-fits a now old moment =
    let t = change-fits a.ctime now old moment in
    choice-fits (is_same_time (time_of_change a.ctime now) a.mtime) (following (time_of_change a.ctime now)) (time_of_change a.ctime now) (following-fits (time_of_change a.ctime now) t) t

pub mtime-fits : (sized : Bool) (asked : NewTime) (time old : Time) → is_no_time asked ≡ false → IsAskedTime asked → IsTime time → IsTime old → IsTime (new_mtime sized asked time old)
mtime-fits sized Leave time old shown word new was = choice-fits sized time old new was
mtime-fits sized Server time old shown word new was = new
mtime-fits sized (Client t) time old shown word new was = (word, leb-false NANOS t.nanos shown)

-- ── modes ──

without-low : (mode bit most : ℕ) → mode < most → without_bit mode bit < most
without-low mode bit most low = by (has_bit mode bit)
  where
    by : (b : Bool) → (if b then mode - bit else mode) < most
    by true = omega (arith, low)
    by false = low

pub plain-low : (mode most : ℕ) → mode < most → plain_mode mode < most
plain-low mode most low = by (has_bit (without_bit mode SET_USER_BIT) GROUP_EXECUTE_BIT)
  where
    m : without_bit mode SET_USER_BIT < most
    m = without-low mode SET_USER_BIT most low

    by : (b : Bool) → (if b then without_bit (without_bit mode SET_USER_BIT) SET_GROUP_BIT else without_bit mode SET_USER_BIT) < most
    by true = without-low (without_bit mode SET_USER_BIT) SET_GROUP_BIT most m
    by false = m

pub group-low : (c : Caller) (group mode most : ℕ) → mode < most → group_mode c group mode < most
group-low c group mode most low = by (is_root c || is_member c group)
  where
    by : (b : Bool) → (if b then mode else without_bit mode SET_GROUP_BIT) < most
    by true = low
    by false = without-low mode SET_GROUP_BIT most low

pub modulo-low : (mode : ℕ) → mode % MODES < MODES
modulo-low mode = omega arith

pub asked-low : (c : Caller) (mode : Option ℕ) (group old : ℕ) → old < MODES → asked_mode c mode group old < MODES
asked-low c None group old low = low
asked-low c (Some mode) group old low = group-low c group (mode % MODES) MODES (modulo-low mode)

pub choice-low : (b : Bool) (mode most : ℕ) → mode < most → (if b then plain_mode mode else mode) < most
choice-low true mode most low = plain-low mode most low
choice-low false mode most low = low

pub written-low : (c : Caller) (mode : ℕ) → mode < MODES → written_mode c mode < MODES
written-low c mode low = by (is_root c)
  where
    by : (b : Bool) → (if b then mode else plain_mode mode) < MODES
    by true = low
    by false = plain-low mode MODES low

with-low : (mode : ℕ) → mode < MODES → with_bit mode SET_GROUP_BIT < MODES
with-low mode low = by (has_bit mode SET_GROUP_BIT) refl
  where
    by : (b : Bool) → (mode / SET_GROUP_BIT % 2 == 1) ≡ b → (if b then mode else mode + SET_GROUP_BIT) < MODES
    by true is = low
    by false is = let no = eqb-false (mode / SET_GROUP_BIT % 2) 1 is in omega (arith, low, no)

pub within-low : (d : Attributes) (kind : Kind) (mode : ℕ) → mode < MODES → mode_within d kind mode < MODES
within-low d File mode low = low
within-low d Link mode low = low
within-low d Directory mode low = by (has_bit d.mode SET_GROUP_BIT)
  where
    by : (b : Bool) → (if b then with_bit mode SET_GROUP_BIT else mode) < MODES
    by true = with-low mode low
    by false = low

-- ── numbers ──

pub or-word : (asked : Option ℕ) (old : ℕ) → IsOptionalWord asked → IsWord old → IsWord (unwrap_or asked old)
or-word None old word was = was
or-word (Some n) old word was = word

pub choice-word : (b : Bool) (m n : ℕ) → IsWord m → IsWord n → IsWord (if b then m else n)
choice-word true m n a b = a
choice-word false m n a b = b

-- ── bodies ──

length-resized : (bytes : List ℕ) (n : ℕ) → length (take n (bytes ++ replicate n 0)) ≤ n
length-resized bytes n = simp length-take (omega arith)

pub resized-fits : (b : Body) (size : Option ℕ) → is_too_big size ≡ false → IsFitBody b → IsFitBody (resized_body b size)
resized-fits (directory places) size few fit = fit
resized-fits (link text) size few fit = fit
resized-fits (file bytes) None few fit = fit
resized-fits (file bytes) (Some n) few fit = let h = ltb-false MOST_BYTES n few in let l = length-resized bytes n in omega (arith, h, l)

pub length-overlaid : (bytes : List ℕ) (offset : ℕ) (bs : List ℕ) (most : ℕ) → length bytes ≤ most → offset + length bs ≤ most → length (overlaid bytes offset bs) ≤ most
length-overlaid bytes offset bs most old new = simp (length-append, length-take, length-drop) (omega (arith, old, new))

grown-fits : (place places : ℕ) → place < MOST_PLACES → IsFitBody (directory places) → IsFitBody (directory (grown place places))
grown-fits place places low fit = by (nat_lt place places)
  where
    by : (b : Bool) → IsFitBody (directory (cond b places (BLOCK_PLACES * (place / BLOCK_PLACES + 1))))
    by true = fit
    by false = (omega (arith, low), (place / BLOCK_PLACES + 1, refl))

pub grown-body-fits : (place : ℕ) (b : Body) → place < MOST_PLACES → IsFitBody b → IsFitBody (grown_body place b)
grown-body-fits place (directory places) low fit = grown-fits place places low fit
grown-body-fits place (file bytes) low fit = fit
grown-body-fits place (link text) low fit = fit
