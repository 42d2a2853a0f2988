-- Connections that are served one after another.
use Rattle.std.proofs.Common.{◌≡◌, ◌<◌, ◌+◌, ◌∙◌, ℕ, List, [], ◌∷◌, ◌++◌, inl, inr, refl, subst, length-append, None, Some, Result, Ok, Err}
use Rattle.std.proofs.lemmas.List.Elements.{All-nil, All-push}
use Rattle.base.specs.declared.refusal.Refusal.{Refusal}
use Rattle.base.specs.declared.refusal.Refusal.TheVariants as refusals
use Rattle.http_exchange.specs.declared.served.HttpFault.{HttpFault}
use Rattle.http_exchange.specs.declared.served.Served.{Served}
use Rattle.http_net.specs.Served.{ending_of}
use Rattle.http_net.specs.Turns.{AreServed, GoesOn, ServesInTurn}

module _ {D : Type 0} (serves : D → D → Result Served HttpFault → Type 0) where
  -- one outcome more
  pub one_more : (all : List (Result Served HttpFault)) (served : Result Served HttpFault) (old mid new : D)
      → AreServed serves all old mid → serves mid new served → AreServed serves (all ++ served ∷ []) old new
  one_more [] served old mid new each one = (new, subst (λ d. serves d new served) each one, refl)
  one_more (first ∷ all) served old mid new each one = (each.0, each.1, one_more all served each.0 mid new each.2 one)

  -- nothing was served yet
  pub serves_none : (desk : D) → ServesInTurn serves 0 desk desk (Ok tt)
  serves_none desk = ([], refl, All-nil GoesOn, refl)

  -- one connection more
  pub serves_one_more : (count : ℕ) (served : Result Served HttpFault) (old mid new : D)
      → ServesInTurn serves count old mid (Ok tt) → serves mid new served → ending_of served ≡ None
      → ServesInTurn serves (count + 1) old new (Ok tt)
  serves_one_more count served old mid new so_far one goes_on = (
    so_far.0 ++ served ∷ [],
    length-append so_far.0 (served ∷ []) ∙ rw so_far.1 refl,
    All-push GoesOn so_far.0 served so_far.2 goes_on,
    one_more so_far.0 served old mid new so_far.3 one,
  )

  -- the last connection
  pub serves_last : (count most : ℕ) (served : Result Served HttpFault) (refusal : Refusal) (old mid new : D)
      → count < most → ServesInTurn serves count old mid (Ok tt) → serves mid new served → ending_of served ≡ Some refusal
      → ServesInTurn serves most old new (Err refusal)
  serves_last count most served refusal old mid new fewer so_far one ends =
      (so_far.0, rw so_far.1 fewer, so_far.2, mid, so_far.3, inl (served, one, ends))

  -- no connection could be had
  pub serves_no_more : (count most : ℕ) (old mid new : D)
      → count < most → ServesInTurn serves count old mid (Ok tt) → new ≡ mid → ServesInTurn serves most old new (Err refusals.Read)
  serves_no_more count most old mid new fewer so_far same =
      (so_far.0, rw so_far.1 fewer, so_far.2, mid, so_far.3, inr (refl, same))
