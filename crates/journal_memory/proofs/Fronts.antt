-- What a longer history says of a front of it.
use Rattle.std.proofs.Common.{◌≡◌, ◌≢◌, ℕ, ◌≤◌, List, [], ◌∷◌, ◌++◌, length, take, refl, ap, subst, ◌∙◌, arith, length-append}
use Rattle.std.proofs.lemmas.List.{take-append-le}
use Rattle.std.proofs.lemmas.List.Elements.{filter_map-append}
use mathlib.Core.List.{IsPrefix}
use Rattle.journal_world.specs.Maps.{Map, Transaction}
use Rattle.journal_world.specs.Histories.{Entry, committed, commits, count, opened, is_trusted, after, at}
use Rattle.journal_world.proofs.LongerHistories.{opened-append, after-layout}
use Rattle.journal_world.proofs.MapsOfHistories.{is_trusted-append}

-- the map after any of its commits is of its layout
pub at-layout : (history : List Entry) (n : ℕ) → (at history n).layout ≡ (opened history).layout
at-layout history n = after-layout (opened history) (take n (commits history))

at-append : (history more : List Entry) (n : ℕ) → history ≢ [] → n ≤ count history → at (history ++ more) n ≡ at history n
at-append history more n some le =
    ap (λ (m : Map). after m (take n (commits (history ++ more)))) (opened-append history more some)
    ∙ ap (λ (ts : List Transaction). after (opened history) (take n ts)) (filter_map-append committed history more)
    ∙ ap (λ (ts : List Transaction). after (opened history) ts) (take-append-le n (commits history) (commits more) le)

count-append-le : (history more : List Entry) → count history ≤ count (history ++ more)
count-append-le history more =
    omega (arith, ap length (filter_map-append committed history more), length-append (commits history) (commits more))

pub append-some : (history more : List Entry) → history ≢ [] → history ++ more ≢ []
append-some [] more some = absurd (some refl)
append-some (e ∷ es) more some = λ is. cc (is)

module _ (front longer : List Entry) (some : front ≢ []) (p : IsPrefix front longer) where
  -- the maps after its commits stay
  pub at-longer : (n : ℕ) → n ≤ count front → at longer n ≡ at front n
  at-longer n le = subst (λ (h : List Entry). at h n ≡ at front n) p.1 (at-append front p.0 n some le)

  pub count-longer : count front ≤ count longer
  count-longer = subst (λ (h : List Entry). count front ≤ count h) p.1 (count-append-le front p.0)

  pub some-longer : longer ≢ []
  some-longer = subst (λ (h : List Entry). h ≢ []) p.1 (append-some front p.0 some)

  pub opened-longer : opened longer ≡ opened front
  opened-longer = subst (λ (h : List Entry). opened h ≡ opened front) p.1 (opened-append front p.0 some)

  pub trusted-longer : is_trusted longer ≡ is_trusted front
  trusted-longer = subst (λ (h : List Entry). is_trusted h ≡ is_trusted front) p.1 (is_trusted-append front p.0 some)
