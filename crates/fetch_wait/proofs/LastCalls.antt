-- What a poll gives, by its last call.
use Rattle.std.proofs.Common.{◌≡◌, ◌∷◌, ◌++◌, ◌∙◌, inl, inr, append_assoc, [], List, Option, Some, ℕ, refl, sym, subst, ap}
use Rattle.futures.specs.declared.task.Poll.{Poll}
use Rattle.futures.specs.declared.task.Poll.TheVariants.{Ready as IsReady, Pending}
use Rattle.fetch_wait.specs.declared.watch.WatchCall.{WatchCall}
use Rattle.fetch_wait.specs.declared.wait.WaitEnd.{WaitEnd}
use Rattle.fetch_wait.specs.declared.wait.WaitEnd.TheVariants.{Ready, TimedOut, NoMemory}
use Rattle.fetch_wait.specs.Polls.{ArePoll, EndsBy, last_call}

last_snoc : (xs : List WatchCall) (x : WatchCall) → last_call (xs ++ x ∷ []) ≡ Some x
last_snoc [] x = refl
last_snoc (y ∷ []) x = refl
last_snoc (y ∷ z ∷ xs) x = last_snoc (z ∷ xs) x

last_is : (xs : List WatchCall) (x : WatchCall) (calls : List WatchCall) → calls ≡ xs ++ x ∷ [] → last_call calls ≡ Some x
last_is xs x calls is = ap last_call is ∙ last_snoc xs x

last_behind : (front xs : List WatchCall) (x : WatchCall) (calls looks : List WatchCall) → calls ≡ front ++ looks → looks ≡ xs ++ x ∷ [] → last_call calls ≡ Some x
last_behind front xs x calls looks is more = last_is (front ++ xs) x calls (is ∙ (ap (λ l. front ++ l) more ∙ sym (append_assoc front xs (x ∷ []))))

pub ends_by : (places deadline : ℕ) (calls : List WatchCall) (result : Poll WaitEnd) → ArePoll places deadline calls result → EndsBy deadline (last_call calls) result
ends_by places deadline calls result (ArePoll.Refused is (inl r)) = subst (λ (o : Option WatchCall). EndsBy deadline o result) (sym (last_is _ _ calls r.2)) is
ends_by places deadline calls result (ArePoll.Refused is (inr r)) = subst (λ (o : Option WatchCall). EndsBy deadline o result) (sym (last_is _ _ calls r)) is
ends_by places deadline calls (IsReady (Ready place offer)) (ArePoll.Looked looks h is) =
    subst (λ (o : Option WatchCall). EndsBy deadline o (IsReady (Ready place offer))) (sym (last_behind _ _ _ calls looks is h.2)) (refl, h.1)
ends_by places deadline calls (IsReady (TimedOut now)) (ArePoll.Looked looks h is) =
    subst (λ (o : Option WatchCall). EndsBy deadline o (IsReady (TimedOut now))) (sym (last_behind _ _ _ calls looks is h.1)) (inr (h.0, refl))
ends_by places deadline calls (IsReady NoMemory) (ArePoll.Looked looks h is) = absurd h
ends_by places deadline calls Pending (ArePoll.Looked looks h is) =
    subst (λ (o : Option WatchCall). EndsBy deadline o Pending) (sym (last_behind _ _ _ calls looks is h.2)) (inl (h.1, refl))
