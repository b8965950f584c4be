-- The law of each call, over its definitions alone: reading memory after the call is changing the plain book, refused or not.
use Rattle.std.proofs.Common.{◌≡◌, ℕ, Bool, true, false, List, length, Some, None, Ok, Err, Option, sym, refl, ap, ◌∙◌}
use Rattle.hours.specs.declared.record.HourRecord.{HourRecord}
use Rattle.book.specs.declared.account.Opening.{Opening}
use Rattle.book.specs.declared.account.Subscription.{Subscription}
use Rattle.book.specs.Answers.{Answer, choice_answer, limits_answer, there_answer}
use Rattle.book.specs.Memory.{after_amend, after_choose, after_open, after_post, has_value, read, state, value_at}
use Rattle.book.specs.Plain.{amend_answer, chosen, choose_answer, holds, opened, place_answer, plain, post_answer, with_subscription, written}
use Rattle.book.proofs.Changes.{amend_accepted, open_accepted, passed, post_accepted}
use Rattle.book.proofs.Missing.{holds_reads}

is_there : (t : Bool) (h : ℕ) (u : Unit {0}) → there_answer t h ≡ Ok u → t ≡ true
is_there true h u e = refl
is_there false h u e = cc

pub post_law : (b : Option Opening) (rs : List HourRecord) (ws : List ℕ) (h : ℕ) (v : HourRecord) (r : Answer (Unit {0})) → r ≡ post_answer (length rs) (length ws) (read (state b rs ws)) h v
    → read (after_post r (state b rs ws) h v) ≡ written r (read (state b rs ws)) h v
post_law b rs ws h v (Ok u) e =
    let a = passed (place_answer (length rs) (length ws) b h v) _ u (sym e) in post_accepted b rs ws h v a.0 (sym a.1)
post_law b rs ws h v (Err f) e = refl

pub amend_law : (b : Option Opening) (rs : List HourRecord) (ws : List ℕ) (h : ℕ) (v : HourRecord) (r : Answer (Unit {0})) → r ≡ amend_answer (length rs) (length ws) (read (state b rs ws)) h v
    → read (after_amend r (state b rs ws) h v) ≡ written r (read (state b rs ws)) h v
amend_law b rs ws h v (Ok u) e =
    let a = passed (place_answer (length rs) (length ws) b h v) _ u (sym e) in
    let there : has_value b ws h ≡ true = sym (holds_reads b rs ws h) ∙ is_there (holds (read (state b rs ws)) h) h u a.2 in
    amend_accepted b rs ws h v a.0 (sym a.1) (sym there)
amend_law b rs ws h v (Err f) e = refl

pub open_law : (b : Option Opening) (rs : List HourRecord) (ws : List ℕ) (r : Answer Opening) → read (after_open r (state b rs ws)) ≡ opened r (read (state b rs ws))
open_law b rs ws (Ok o) = open_accepted o rs ws (Ok o) (read (state b rs ws)) refl
open_law b rs ws (Err f) = refl

-- the hours do not depend on the subscription
pub choose_law : (b : Option Opening) (s : Subscription) (rs : List HourRecord) (ws : List ℕ) (r : Answer Opening) → r ≡ choose_answer b s
    → read (state (after_choose r b) rs ws) ≡ chosen r (read (state b rs ws))
choose_law (Some o) s rs ws (Ok o') e =
    let a = passed (choice_answer o.connection s.choice) _ o' (sym e) in
    let c = passed (limits_answer o.connection s) _ o' a.2 in
    let same : with_subscription o s ≡ o' = let told = c.2 in cc in
    ap (λ (x : Opening). plain (Some o') (value_at (Some x) rs ws)) (sym same)
choose_law None s rs ws (Ok o') e = cc
choose_law b s rs ws (Err f) e = refl
