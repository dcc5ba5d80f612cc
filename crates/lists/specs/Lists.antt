-- Lists: what passes a test, where it stands, what changes, and the array that stands for a list.
use Rattle.std.specs.Prelude.{ℕ, suc, ◌+◌, ◌-◌, min, Bool, true, false, ◌&&◌, ◌||◌, List, [], ◌∷◌, ◌++◌, length, take, drop, replicate}
use Rattle.std.specs.Prelude.{if◌then◌else◌, ◌==◌}

module _ {A : Type 0} where
  -- there is nothing in the list
  unfoldable pub empty? : List A → Bool
  empty? [] = true
  empty? (x ∷ l) = false

  -- one of them passes
  unfoldable pub some? : (A → Bool) → List A → Bool
  some? p [] = false
  some? p (x ∷ l) = p x || some? p l

  -- each of them passes
  unfoldable pub every? : (A → Bool) → List A → Bool
  every? p [] = true
  every? p (x ∷ l) = p x && every? p l

  -- P holds of each of them
  unfoldable pub Every : (A → Type 0) → List A → Type 0
  Every P [] = Unit
  Every P (x ∷ l) = P x × Every P l

  -- those that pass, in order
  unfoldable pub keep : (A → Bool) → List A → List A
  keep p [] = []
  keep p (x ∷ l) = if p x then x ∷ keep p l else keep p l

  -- how many pass
  unfoldable pub count : (A → Bool) → List A → ℕ
  count p [] = 0
  count p (x ∷ l) = if p x then suc (count p l) else count p l

  -- how many at the front pass, up to the first that does not
  unfoldable pub leading : (A → Bool) → List A → ℕ
  leading p [] = 0
  leading p (x ∷ l) = if p x then suc (leading p l) else 0

  -- the index of the first that passes, or the length where none does
  unfoldable pub index_of : (A → Bool) → List A → ℕ
  index_of p [] = 0
  index_of p (x ∷ l) = if p x then 0 else suc (index_of p l)

  -- the first that passes, or d where none does
  unfoldable pub first : (A → Bool) → A → List A → A
  first p d [] = d
  first p d (x ∷ l) = if p x then x else first p d l

  -- the first that passes becomes f of it
  unfoldable pub change : (A → Bool) → (A → A) → List A → List A
  change p f [] = []
  change p f (x ∷ l) = if p x then f x ∷ l else x ∷ change p f l

  -- x stands before the first that passes
  unfoldable pub insert_before : (A → Bool) → A → List A → List A
  insert_before p x [] = x ∷ []
  insert_before p x (y ∷ l) = if p y then x ∷ y ∷ l else y ∷ insert_before p x l

  -- x stands at index k, with what stood there and after behind it
  unfoldable pub insert_at : ℕ → A → List A → List A
  insert_at k x l = take k l ++ x ∷ drop k l

  -- the sum of a number of each
  unfoldable pub sum : (A → ℕ) → List A → ℕ
  sum f [] = 0
  sum f (x ∷ l) = f x + sum f l

  -- the lists of each, one after the other
  unfoldable pub gather : {B : Type 0} → (A → List B) → List A → List B
  gather f [] = []
  gather f (x ∷ l) = f x ++ gather f l

  -- as long as each other, and alike place by place
  unfoldable pub alike? : (A → A → Bool) → List A → List A → Bool
  alike? e [] [] = true
  alike? e [] (y ∷ k) = false
  alike? e (x ∷ l) [] = false
  alike? e (x ∷ l) (y ∷ k) = e x y && alike? e l k

  -- the array of cap places that stands for the list: what is behind the list is blank
  unfoldable pub padded : ℕ → A → List A → List A
  padded cap blank l = l ++ replicate (cap - length l) blank

-- the number is in the list
unfoldable pub in? : ℕ → List ℕ → Bool
in? n l = some? (λ k. k == n) l

-- the lists are the same
unfoldable pub same? : List ℕ → List ℕ → Bool
same? l k = alike? (λ x y. x == y) l k

-- some number of the first list stands there again, or in the second
unfoldable pub repeats? : List ℕ → List ℕ → Bool
repeats? [] k = false
repeats? (n ∷ l) k = in? n l || in? n k || repeats? l k

-- the smallest of numbers; 0 where there is none
unfoldable pub smallest : List ℕ → ℕ
smallest [] = 0
smallest (x ∷ []) = x
smallest (x ∷ y ∷ l) = min x (smallest (y ∷ l))

-- how often the number is in the list
unfoldable pub times : ℕ → List ℕ → ℕ
times n l = count (λ k. k == n) l

-- each of the list stands so to all that come after it
unfoldable pub Ordered : {A : Type 0} → (A → A → Type 0) → List A → Type 0
Ordered R [] = Unit
Ordered R (x ∷ l) = Every (R x) l × Ordered R l
