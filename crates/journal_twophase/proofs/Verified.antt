-- The held slots that agree with what a transaction has seen.
use Rattle.std.proofs.Common.{◌≡◌, ℕ, ◌<◌, min, Bool, true, false, cond, List, [], ◌∷◌, ◌++◌, length, drop, take, Option, option_to_list, sym, subst, arith, length-append}
use Rattle.std.proofs.lemmas.List.{get_or_append_left}
use Rattle.journal_world.specs.Addresses.{Shape}
use Rattle.journal_world.specs.Histories.{Entry, touched}
use Rattle.journal_lockmap.specs.Numbers.{HeldState}
use Rattle.journal_memory.specs.SlotCounts.{AgreeWith}
use Rattle.journal_twophase.specs.Transactions.{KnowsHeld}
use Rattle.journal_twophase.proofs.Holding.{lent_back}

-- all were looked at
pub knows_all : (layout : Shape) (held : List HeldState) (seen : List Entry) (n : ℕ) → n ≡ length held → AgreeWith layout seen held → KnowsHeld layout held seen n
knows_all layout held seen n is agree = record { few = omega (arith, is); agree = λ k d _ low. agree k d low }

-- what stands behind the known ones does not matter
knows_front : (layout : Shape) (held more : List HeldState) (seen : List Entry) (known : ℕ) → KnowsHeld layout held seen known → KnowsHeld layout (held ++ more) seen known
knows_front layout held more seen known knows = record {
  few = let l = length-append held more in let f = knows.few in omega (arith, l, f);
  agree = λ k d low _.
      let f = knows.few in
      let inside : k < length held = omega (arith, low, f) in
      subst (λ (h : HeldState). h.count ≡ touched layout seen h.slot) (sym (get_or_append_left held more d k inside)) (knows.agree k d low inside);
}

knows_back : (layout : Shape) (held more : List HeldState) (seen : List Entry) (known : ℕ) → KnowsHeld layout (held ++ more) seen known → KnowsHeld layout held seen (min known (length held))
knows_back layout held more seen known knows = record {
  few = omega arith;
  agree = λ k d low inside.
      let l = length-append held more in
      subst (λ (h : HeldState). h.count ≡ touched layout seen h.slot) (get_or_append_left held more d k inside) (knows.agree k d (omega (arith, low)) (omega (arith, inside, l)));
}

-- one was pushed, or for want of memory not
pub knows_pushed : (layout : Shape) (b : Bool) (held now : List HeldState) (x : HeldState) (seen : List Entry) (known : ℕ) → now ≡ cond b (held ++ x ∷ []) held → KnowsHeld layout held seen known → KnowsHeld layout now seen known
knows_pushed layout true held now x seen known is knows = subst (λ (l : List HeldState). KnowsHeld layout l seen known) (sym is) (knows_front layout held (x ∷ []) seen known knows)
knows_pushed layout false held now x seen known is knows = subst (λ (l : List HeldState). KnowsHeld layout l seen known) (sym is) knows

-- the last was popped, if there was one
pub knows_popped : (layout : Shape) (last : Option HeldState) (held now : List HeldState) (seen : List Entry) (known n : ℕ) → held ≡ now ++ option_to_list last → n ≡ min known (length now)
    → KnowsHeld layout held seen known → KnowsHeld layout now seen n
knows_popped layout last held now seen known n is fewer knows =
    subst (KnowsHeld layout now seen) (sym fewer) (knows_back layout now (option_to_list last) seen known (subst (λ (l : List HeldState). KnowsHeld layout l seen known) is knows))

-- they were lent as a slice, and are as they were
pub knows_lent : (layout : Shape) (n : ℕ) (now held : List HeldState) (seen : List Entry) (known : ℕ) → now ≡ held → n ≡ length held → KnowsHeld layout held seen known
    → KnowsHeld layout (take n (now ++ drop (length now) held)) seen known
knows_lent layout n now held seen known same is knows = subst (λ (l : List HeldState). KnowsHeld layout l seen known) (sym (lent_back n now held same is)) knows
