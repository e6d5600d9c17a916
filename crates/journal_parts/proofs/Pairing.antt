-- What a hold of both parts finds, and what it keeps of what ties them.
use Rattle.std.proofs.Common.{◌≡◌, ⊎_elim, ◌<◌, ◌≤◌, ◌+◌, ℕ, IsTrue, List, [], ◌∷◌, ◌++◌, length, All, ◌-◌, refl, sym, ap, subst, ◌∙◌, arith, length-append, length-drop}
use Rattle.std.proofs.lemmas.List.Elements.{All-push}
use mathlib.Core.List.{IsPrefix}
use Rattle.journal_world.specs.declared.refusal.Refusal.{Refusal}
use Rattle.journal_world.specs.declared.refusal.Refusal.TheVariants.{NoMemory, BadAddress, BadSize, TooLarge, Busy, DeviceFailed, BadLog, BadSuper, Stale, Stranger, Worn, Full, Closed, Fenced}
use Rattle.journal_world.specs.Addresses.{Shape}
use Rattle.journal_world.specs.Maps.{Map, Transaction, SameMap}
use Rattle.journal_world.specs.Histories.{Entry, is_trusted, count, floor}
use Rattle.journal_world.specs.Histories.Entry.{commit, stable}
use Rattle.journal_world.proofs.Marks.{floor-mark, floor-commit, count-mark}
use Rattle.journal_world.proofs.Prefixes.{IsPrefix-refl, IsPrefix-trans, IsPrefix-length}
use Rattle.journal_block.specs.declared.update.Update.{Update}
use Rattle.journal_block.specs.Block.{Bytes}
use Rattle.journal_disk.specs.Laws.{leaves_also}
use Rattle.journal_memlog.specs.Logs.{LogState, tail_of, next_position}
use Rattle.journal_wal.specs.Wal.{WalState, with_room}
use Rattle.journal_wal.specs.Groups.{TakesGroup}
use Rattle.journal_tail.specs.Tails.{TailState, DropsCuts, cut_points, cut_after}
use Rattle.journal_objlog.specs.ObjectLogs.{end_of}
use Rattle.journal_memory.specs.Causes.{CauseState}
use Rattle.journal_parts.specs.Cores.{Leaves as LeavesHistory}
use Rattle.journal_parts.specs.Durables.{DurableState, Leaves, Crashes, IsDurable, TakesCut, LogAnswers, disk_of}
use Rattle.journal_parts.proofs.Enduring.{StaysCut}
use Rattle.journal_wal.specs.declared.step.GroupStep.{GroupStep}
use Rattle.journal_wal.specs.declared.step.GroupStep.TheVariants.{Idle, Put, Logged}
use Rattle.journal_memory.specs.Volatiles.{VolatileState, IsVolatile, IsFrontRefusal}
use Rattle.journal_parts.specs.Pairs.{Tied, IsCutDue, IsRestDue, CutsBoth, MarksBoth, MarksAll, IsMarkedAbove, IsUntied}
use Rattle.journal_memory.specs.Updates.{HaveAllSince}
use Rattle.journal_memory.proofs.Latest.{since_later, since_mark}
use Rattle.journal_world.proofs.MapsOfHistories.{is_trusted-append}
use Rattle.journal_memory.proofs.Fronts.{at-longer, count-longer}
use Rattle.journal_memory.proofs.Staying.{all_behind}

-- a front that begins the history is not the longer
pub begins_not : (history seen : List Entry) (why : Refusal CauseState) → IsFrontRefusal history seen why → IsPrefix seen history → ⊥
begins_not history seen (Stale cause) why begins = omega (arith, why.1.1, IsPrefix-length seen history begins)
begins_not history seen NoMemory why begins = why
begins_not history seen BadAddress why begins = why
begins_not history seen BadSize why begins = why
begins_not history seen TooLarge why begins = why
begins_not history seen Busy why begins = why
begins_not history seen (DeviceFailed cause) why begins = why
begins_not history seen BadLog why begins = why
begins_not history seen BadSuper why begins = why
begins_not history seen (Stranger cause) why begins = why
begins_not history seen (Worn cause) why begins = why
begins_not history seen (Full cause) why begins = why
begins_not history seen (Closed cause) why begins = why
begins_not history seen Fenced why begins = why

-- a history with a mark above n has one
is_above : (v : VolatileState) (n : ℕ) (why : Refusal CauseState) → IsMarkedAbove v n why → n < floor v.ledger.history
is_above v n (Stale cause) above = above.1
is_above v n NoMemory above = absurd above
is_above v n BadAddress above = absurd above
is_above v n BadSize above = absurd above
is_above v n TooLarge above = absurd above
is_above v n Busy above = absurd above
is_above v n (DeviceFailed cause) above = absurd above
is_above v n BadLog above = absurd above
is_above v n BadSuper above = absurd above
is_above v n (Stranger cause) above = absurd above
is_above v n (Worn cause) above = absurd above
is_above v n (Full cause) above = absurd above
is_above v n (Closed cause) above = absurd above
is_above v n Fenced above = absurd above

-- a tied pair is not refused for its front, nor for a mark above what is marked beside the log
pub untied_not : (v : VolatileState) (d : DurableState) (n : ℕ) (why : Refusal CauseState) → d.marked ≤ n → Tied v d → IsUntied v d n why → ⊥
untied_not v d n why low tied untied = ⊎_elim
    (λ (front : IsFrontRefusal v.ledger.history d.front why). begins_not v.ledger.history d.front why front tied.begins)
    (λ (above : IsMarkedAbove v n why). omega (arith, is_above v n why above, tied.marked, low))
    untied

-- an image of a disk that has all marks of the history opens as the map after a front of it
pub leaves_history : (layout : Shape) (d : DurableState) (history : List Entry) (image : List Bytes) → IsDurable layout d → IsPrefix d.front history
    → floor history ≤ d.marked → Leaves d image → LeavesHistory history image
leaves_history layout d history image kept begins low leaves = record {
  commits = leaves.commits;
  marked = omega (arith, low, leaves.marked);
  made = omega (arith, leaves.coming, kept.coming_to_count, count-longer d.front history kept.begun begins);
  map = leaves.map;
  opens = leaves.opens;
  same = subst (λ (m : Map). SameMap leaves.map m)
      (sym (at-longer d.front history kept.begun begins leaves.commits (omega (arith, leaves.coming, kept.coming_to_count)))) leaves.same;
}

-- more room changes nothing that ties
pub tied_roomed : (v : VolatileState) (d e : DurableState) → e ≡ record d { objects = with_room d.objects e.objects.log.room } → Tied v d → Tied v e
tied_roomed v d e same tied = subst (Tied v) (sym same) (record {
  begins = tied.begins;
  marked = tied.marked;
  trimmed = tied.trimmed;
  cut = tied.cut;
  position = tied.position;
  logged = tied.logged;
})

-- nor what a crash leaves
pub crashes_roomed : (d mid e : DurableState) → mid ≡ record d { objects = with_room d.objects mid.objects.log.room } → Crashes mid e → Crashes d e
crashes_roomed d mid e same crash =
    let from : Crashes (record d { objects = with_room d.objects mid.objects.log.room }) e = subst (λ (m : DurableState). Crashes m e) same crash in record {
      keeps = from.keeps;
      moments = λ honest. leaves_also (disk_of d).past (disk_of e).past (Leaves (record d { objects = with_room d.objects mid.objects.log.room })) (Leaves d) (from.moments honest)
          (λ image leaves. record { commits = leaves.commits; marked = leaves.marked; coming = leaves.coming; map = leaves.map; opens = leaves.opens; same = leaves.same });
      images = from.images;
    }

-- a group that was taken with more room
taken_roomed : (w : WalState) (room : ℕ) (group : List Update) (new : WalState) → TakesGroup (with_room w room) group new → TakesGroup w group new
taken_roomed w room group new takes = record {
  disk = takes.disk;
  log = takes.log;
  steps = takes.steps;
  tail = takes.tail;
  now = takes.now;
  cut = takes.cut;
  logged = takes.logged;
  installing = takes.installing;
}

-- a hold of both that cuts
pub cuts_both : (v w : VolatileState) (d mid e : DurableState) (front : List Entry) (group : List Update) → IsCutDue v d
    → w ≡ record v { ledger = record v.ledger { cut = count v.ledger.history }; tail = cut_after v.tail (count v.ledger.history) }
    → mid ≡ record d { objects = with_room d.objects mid.objects.log.room } → front ≡ v.ledger.history → group ≡ tail_of v.tail.log
    → TakesCut front group mid e → CutsBoth v d w e
cuts_both v w d mid e front group due volatile same whole is takes =
    let begun : TakesCut v.ledger.history group mid e = subst (λ (h : List Entry). TakesCut h group mid e) whole takes in
    let all : TakesCut v.ledger.history (tail_of v.tail.log) mid e = subst (λ (us : List Update). TakesCut v.ledger.history us mid e) is begun in
    let from : TakesCut v.ledger.history (tail_of v.tail.log) (record d { objects = with_room d.objects mid.objects.log.room }) e =
    subst (λ (m : DurableState). TakesCut v.ledger.history (tail_of v.tail.log) m e) same all in record {
      due = due;
      volatile = volatile;
      group = record { taken = taken_roomed d.objects mid.objects.log.room (tail_of v.tail.log) e.objects from.taken; others = from.others };
    }

-- the tail's blocks lie behind the cut
pub place_of : (layout : Shape) (v : VolatileState) → IsVolatile layout v → next_position v.tail.log ≡ v.tail.log.cut + length (tail_of v.tail.log)
place_of layout v kept = omega (arith, start_to_cut, kept.cut_to_next, length-drop (v.tail.log.cut - v.tail.log.start) v.tail.log.updates)
  where
    start_to_cut : v.tail.log.start ≤ v.tail.log.cut
    start_to_cut = (kept.cuts 0 (record { end = 0; commits = 0 }) (omega arith)).below

pub tied_cut : (layout : Shape) (v w : VolatileState) (d e : DurableState) → IsVolatile layout v → CutsBoth v d w e → end_of e.objects < e.objects.log.cut
    → Tied v d → Tied w e
tied_cut layout v w d e kept cuts flies tied =
    subst (λ (x : VolatileState). Tied x e) (sym cuts.volatile) (subst (Tied later) (sym cuts.group.others) (record {
      begins = IsPrefix-refl v.ledger.history;
      marked = tied.marked;
      trimmed = tied.trimmed;
      cut = refl;
      position = omega (arith, next, here, place);
      logged = All-push (λ c. c.end ≤ end_of e.objects → c.commits ≤ d.logged) (cut_points v.tail) (record { end = next_position v.tail.log; commits = count v.ledger.history })
          (λ k dflt lt below. tied.logged k dflt lt (omega (arith, below, same)))
          (λ below. absurd (omega (arith, below, flies, last, here, place)));
    }))
  where
    later : VolatileState
    later = record v { ledger = record v.ledger { cut = count v.ledger.history }; tail = cut_after v.tail (count v.ledger.history) }

    place : next_position v.tail.log ≡ v.tail.log.cut + length (tail_of v.tail.log)
    place = place_of layout v kept

    here : v.tail.log.cut ≡ next_position d.objects.log
    here = tied.position

    next : next_position e.objects.log ≡ next_position d.objects.log + length (tail_of v.tail.log)
    next = omega (arith, ap next_position cuts.group.taken.log, length-append d.objects.log.updates (tail_of v.tail.log))

    last : e.objects.log.cut ≡ next_position d.objects.log + length (tail_of v.tail.log)
    last = ap (λ (l : LogState). l.cut) cuts.group.taken.log

    same : end_of e.objects ≡ end_of d.objects
    same = ap (λ (l : LogState). l.logged) cuts.group.taken.log

-- a hold of both that marks
pub tied_mark : (v w : VolatileState) (d e : DurableState) → floor v.ledger.history ≤ d.logged → v.ledger.cut ≡ d.logged → MarksBoth v d w e → Tied v d → Tied w e
tied_mark v w d e low cut marks tied =
    subst (λ (x : VolatileState). Tied x e) (sym marks.volatile)
    (subst (Tied (record v { ledger = record v.ledger { history = v.ledger.history ++ stable d.logged ∷ []; cut = d.logged } })) (sym marks.durable) (record {
      begins = IsPrefix-refl (v.ledger.history ++ stable d.logged ∷ []);
      marked = floor-mark v.ledger.history d.logged low;
      trimmed = tied.trimmed;
      cut = sym cut ∙ tied.cut;
      position = tied.position;
      logged = tied.logged;
    }))

-- what is logged stands in the longer history
pub made_in : (layout : Shape) (d : DurableState) (history : List Entry) → IsDurable layout d → IsPrefix d.front history → d.logged ≤ count history
made_in layout d history kept begins =
    omega (arith, kept.logged_to_coming, kept.coming_to_count, count-longer d.front history kept.begun begins)

-- updates of some first cuts were dropped, of which all are at home
pub tied_trim : (v : VolatileState) (d : DurableState) (upto : ℕ) (new : TailState) → DropsCuts v.tail upto new → upto ≤ end_of d.objects → Tied v d
    → Tied (record v { tail = new }) d
tied_trim v d upto new drops home tied = record {
  begins = tied.begins;
  marked = tied.marked;
  trimmed = ⊎_elim
      (λ (is : new ≡ v.tail). subst (λ (t : TailState). t.trimmed ≤ d.logged) (sym is) tied.trimmed)
      (λ (le : new.log.start ≤ upto). left 0 (record { end = 0; commits = 0 }) (omega arith) (omega (arith, le, home)))
      drops.by;
  cut = tied.cut;
  position = ap (λ (l : LogState). l.cut) drops.log ∙ tied.position;
  logged = left;
}
  where
    left : All (λ c. c.end ≤ end_of d.objects → c.commits ≤ d.logged) (cut_points new)
    left = all_behind (λ c. c.end ≤ end_of d.objects → c.commits ≤ d.logged) drops.earlier (cut_points new)
        (subst (All (λ c. c.end ≤ end_of d.objects → c.commits ≤ d.logged)) drops.points tied.logged)

-- the marks of all commits, as the calls of the two parts make them
pub marks_all : (v w : VolatileState) (d e : DurableState) (n : ℕ) (front : List Entry) → IsRestDue v d → n ≡ count v.ledger.history
    → w ≡ record v { ledger = record v.ledger { history = v.ledger.history ++ stable n ∷ []; cut = n } } → front ≡ w.ledger.history
    → e ≡ record d { front = front; marked = count front; logged = count front; coming = count front }
    → MarksAll v d w e
marks_all v w d e n front due is volatile whole marked = record {
  due = due;
  volatile = volatile ∙ ap (λ (k : ℕ). record v { ledger = record v.ledger { history = v.ledger.history ++ stable k ∷ []; cut = k } }) is;
  durable = marked
      ∙ ap (λ (k : ℕ). record d { front = front; marked = k; logged = k; coming = k }) counted
      ∙ ap (λ (h : List Entry). record d { front = h; marked = count v.ledger.history; logged = count v.ledger.history; coming = count v.ledger.history }) (whole ∙ longer);
}
  where
    longer : w.ledger.history ≡ v.ledger.history ++ stable (count v.ledger.history) ∷ []
    longer = ap (λ (x : VolatileState). x.ledger.history) volatile ∙ ap (λ (k : ℕ). v.ledger.history ++ stable k ∷ []) is

    counted : count front ≡ count v.ledger.history
    counted = ap count (whole ∙ longer) ∙ count-mark v.ledger.history (count v.ledger.history)

-- a hold of both that marks all commits
pub tied_rest : (layout : Shape) (v w : VolatileState) (d e : DurableState) → IsVolatile layout v → IsDurable layout d → floor v.ledger.history ≤ count v.ledger.history
    → MarksAll v d w e → Tied v d → Tied w e
tied_rest layout v w d e held kept low marks tied =
    subst (λ (x : VolatileState). Tied x e) (sym marks.volatile) (subst (Tied later) (sym marks.durable) (record {
      begins = IsPrefix-refl later.ledger.history;
      marked = floor-mark v.ledger.history (count v.ledger.history) low;
      trimmed = omega (arith, tied.trimmed, made_in layout d v.ledger.history kept tied.begins);
      cut = refl;
      position = tied.position;
      logged = λ k dflt lt below. let was = held.cuts k dflt lt in omega (arith, was.earlier, held.made);
    }))
  where
    later : VolatileState
    later = record v { ledger = record v.ledger { history = v.ledger.history ++ stable (count v.ledger.history) ∷ []; cut = count v.ledger.history } }

-- the commits after those that are logged wrote nothing
pub rest_since : (layout : Shape) (v : VolatileState) (n : ℕ) → IsVolatile layout v → v.ledger.cut ≤ n → tail_of v.tail.log ≡ []
    → IsTrue (is_trusted (v.ledger.history ++ stable (count v.ledger.history) ∷ []))
    → HaveAllSince layout (v.ledger.history ++ stable (count v.ledger.history) ∷ []) n []
rest_since layout v n held le empty trusted =
    since_later layout (v.ledger.history ++ stable (count v.ledger.history) ∷ []) v.ledger.cut n [] le
    (since_mark layout v.ledger.history (count v.ledger.history) v.ledger.cut [] held.begun
    (subst (HaveAllSince layout v.ledger.history v.ledger.cut) empty
    (held.updates (subst IsTrue (is_trusted-append v.ledger.history (stable (count v.ledger.history) ∷ []) held.begun) trusted)).since_last))

-- ---- holds of one part

-- the logger's call
pub tied_logged : (layout : Shape) (v : VolatileState) (d e : DurableState) (step : GroupStep) → IsVolatile layout v → IsDurable layout d → LogAnswers d step e
    → Tied v d → Tied v e
tied_logged layout v d e Idle held kept answers tied = subst (Tied v) (sym answers.1) tied
tied_logged layout v d e Put held kept answers tied = subst (Tied v) (sym answers.1) (record {
  begins = tied.begins;
  marked = tied.marked;
  trimmed = tied.trimmed;
  cut = tied.cut;
  position = tied.position ∙ sym (ap next_position answers.0.log);
  logged = λ k c lt below. tied.logged k c lt (omega (arith, below, ap (λ (l : LogState). l.logged) answers.0.log));
})
tied_logged layout v d e Logged held kept answers tied = subst (Tied v) (sym answers.1) (record {
  begins = tied.begins;
  marked = tied.marked;
  trimmed = omega (arith, tied.trimmed, kept.logged_to_coming);
  cut = tied.cut;
  position = tied.position ∙ sym (ap next_position answers.0.end);
  logged = λ k c lt below. let place = held.cuts k c lt in omega (arith, place.earlier, tied.cut);
})

-- the installer's call, and one that was refused: no group came or went
pub tied_stays : (layout : Shape) (v : VolatileState) (d e : DurableState) → IsDurable layout d → e ≡ record d { objects = e.objects } → StaysCut d.objects e.objects
    → Tied v d → Tied v e
tied_stays layout v d e kept same stays tied = subst (Tied v) (sym same) (record {
  begins = tied.begins;
  marked = tied.marked;
  trimmed = tied.trimmed;
  cut = tied.cut;
  position = tied.position ∙ kept.next ∙ sym stays.cut ∙ sym (stays.next kept.next kept.ends);
  logged = λ k c lt below. tied.logged k c lt (omega (arith, below, stays.logged));
})

-- a commit
pub tied_committed : (v w : VolatileState) (d : DurableState) (t : Transaction) → w.ledger.history ≡ v.ledger.history ++ commit t ∷ [] → w.ledger.cut ≡ v.ledger.cut
    → w.tail.trimmed ≡ v.tail.trimmed → cut_points w.tail ≡ cut_points v.tail → w.tail.log.cut ≡ v.tail.log.cut → Tied v d → Tied w d
tied_committed v w d t added cut trimmed points position tied = record {
  begins = subst (IsPrefix d.front) (sym added)
      (IsPrefix-trans d.front v.ledger.history (v.ledger.history ++ commit t ∷ []) tied.begins (commit t ∷ [], refl));
  marked = ap floor added ∙ floor-commit v.ledger.history t ∙ tied.marked;
  trimmed = omega (arith, trimmed, tied.trimmed);
  cut = cut ∙ tied.cut;
  position = position ∙ tied.position;
  logged = subst (All (λ c. c.end ≤ end_of d.objects → c.commits ≤ d.logged)) (sym points) tied.logged;
}
