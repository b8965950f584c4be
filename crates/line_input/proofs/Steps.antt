-- What one byte more, and one chunk more, adds to what was taken in.
use Rattle.std.proofs.Common.{◌≡◌, ◌≢◌, ℕ, ◌+◌, ◌-◌, ◌<◌, ◌≤◌, List, [], ◌∷◌, ◌++◌, length, take, get_or, Option, Some, None, false, ◌==◌, sym, ◌∙◌, ap, subst, append_assoc, arith}
use Rattle.std.specs.Io.KnownBytes.{Consumes}
use Rattle.std.specs.List.{FoldsTo}
use Rattle.std.proofs.lemmas.List.{take_more}
use Rattle.std.proofs.lemmas.List.Sums.{fold-append}
use Rattle.std.proofs.lemmas.Fn.{FoldsTo-push}
use Rattle.line_input.specs.Taken.{Takes, last_byte, with_last_ended}

module _ {S : Type 0} (pushes : S → ℕ → S → Type 0) (ends : S → S → Type 0) where
  pub takes-newline : (s t : S) (byte : ℕ) → byte ≡ 10 → ends s t → Takes pushes ends s byte t
  takes-newline s t byte is ended = rw is ended

  pub takes-byte : (s t : S) (byte : ℕ) → byte ≢ 10 → pushes s byte t → Takes pushes ends s byte t
  takes-byte s t byte not pushed = grind arith

  pub takes-more : (start s t : S) (bytes : List ℕ) (i : ℕ) → i < length bytes → FoldsTo (Takes pushes ends) start (take i bytes) s → Takes pushes ends s (get_or bytes i 0) t → FoldsTo (Takes pushes ends) start (take (i + 1) bytes) t
  takes-more start s t bytes i below taken more =
      rw (take_more bytes i 0 below) (FoldsTo-push (Takes pushes ends) start (take i bytes) s (get_or bytes i 0) t taken more)

  pub ended : (start s t : S) (text : List ℕ) → last_byte text ≢ 10 → FoldsTo (Takes pushes ends) start text s → ends s t → FoldsTo (Takes pushes ends) start (with_last_ended text) t
  ended start s t text unended taken end =
      let still : (last_byte text == 10) ≡ false = grind arith in
      rw still (FoldsTo-push (Takes pushes ends) start text s 10 t taken end)

pub folds-on : {P A : Type 0} (R : P → A → P → Type 0) (xs ys : List A) (p q u : P) → FoldsTo R p xs q → FoldsTo R q ys u → FoldsTo R p (xs ++ ys) u
folds-on R [] ys p q u first then = subst (λ s. FoldsTo R s ys u) (sym first) then
folds-on R (x ∷ xs) ys p q u first then = (first.0, first.1, folds-on R xs ys first.0 q u first.2 then)

pub consumes-on : (a b c : Option (List ℕ)) (xs ys : List ℕ) → Consumes a b xs → Consumes b c ys → Consumes a c (xs ++ ys)
consumes-on None b c xs ys first then = tt
consumes-on (Some all) None c xs ys first then = absurd first
consumes-on (Some all) (Some rest) None xs ys first then = absurd then
consumes-on (Some all) (Some rest) (Some left) xs ys first then =
    first ∙ ap (λ zs. xs ++ zs) then ∙ sym (append_assoc xs ys left)

pub consumes-none : (a b c : Option (List ℕ)) (xs : List ℕ) → Consumes a b xs → Consumes b c [] → Consumes a c xs
consumes-none None b c xs first then = tt
consumes-none (Some all) None c xs first then = absurd first
consumes-none (Some all) (Some rest) None xs first then = absurd then
consumes-none (Some all) (Some rest) (Some left) xs first then = first ∙ ap (λ zs. xs ++ zs) then

last-at : (xs ys : List ℕ) (m : ℕ) → m < length ys → last_byte (xs ++ take (m + 1) ys) ≡ get_or ys m 0
last-at xs ys m below =
    rw (take_more ys m 0 below)
    (rw (fold-append (λ (_ byte : ℕ). byte) 10 xs (take m ys ++ get_or ys m 0 ∷ []))
    (fold-append (λ (_ byte : ℕ). byte) (last_byte xs) (take m ys) (get_or ys m 0 ∷ [])))

pub last-read : (xs ys : List ℕ) (n : ℕ) → n ≢ 0 → n ≤ length ys → get_or ys (n - 1) 0 ≡ last_byte (xs ++ take n ys)
last-read xs ys n some fits =
    let e : n - 1 + 1 ≡ n = omega arith in
    let below : n - 1 < length ys = omega arith in
    subst (λ k. get_or ys (n - 1) 0 ≡ last_byte (xs ++ take k ys)) e (sym (last-at xs ys (n - 1) below))
