-- A loop over the items of a menu command: what it has read, and that nothing else can stand there.
-- Assumes nothing.
use Prim.Native.Nat.{ℕ, ◌+◌, ◌-◌, ◌≤◌, ◌<◌}
use native.Mathlib.Omega.{arith}
use mathlib.Core.Path.{◌≡◌, refl, sym, ap, subst, ◌∙◌}
use mathlib.Core.Bool.{Bool, true, false, ◌&&◌, ◌||◌}
use mathlib.Core.List.{List, [], ◌∷◌, ◌++◌, map, append_assoc, append-nil}
use lib.ListN.{length, take, drop, get_or, set, replicate, length-append, length-drop, length-set, length-replicate, get_or-replicate}
use lib.Seq.{append_snoc, length-take-le, get_or-set_same, get_or-set_other, get_or-drop}
use borrow.Author.Tests.{eqb-true, eqb-false}
use Rattle.std.specs.Prelude.{◌==◌, Option, Some, None}
use Rattle.lists.specs.Lists.{every?, in?, some?, repeats?, gather, padded}
use Rattle.lists.proofs.Padded.{push}
use Rattle.lists.proofs.Mapped.{map-append, map-length}
use Rattle.lists.proofs.Firsts.{some-append}
use Rattle.lists.proofs.Truth.{and_left, and_right, or-false, or-true}
use Rattle.lists.proofs.Decided.{clashing}
use Rattle.rules.specs.declared.Item as held
use Rattle.rules.specs.Holds.{document}
use Rattle.rules.specs.Bytes.{byte}
use Rattle.rules.specs.Commands.{Item, item_bytes, proper_item}
use Rattle.rules.specs.Held.{stored_item}
use Rattle.menu_reader.specs.Reads.{no_item, identifiers, item_at, Stay, TextAt, ItemsRead}
use Rattle.menu_reader.proofs.Lists.{part_held, every_two, fresh-more, twice}
use Rattle.menu_reader.proofs.Items.{item-same}

-- items with the bytes from `from` on begin with those done, and the others stand from `next` on
pub record Rest (s : List ℕ) (next : ℕ) (done l : List Item) : Type 0 where
  pub others : List Item
  pub all : l ≡ done ++ others
  pub bytes : gather item_bytes others ≡ drop next s

-- a loop that has come to `next`, with k items done
pub record Come (s : List ℕ) (from : ℕ) (at : List held.Item) (seen : List Bool) (next k : ℕ) : Type 0 where
  pub done : List Item
  pub stay : Stay done
  pub bytes : gather item_bytes done ++ drop next s ≡ drop from s
  pub form : at ≡ padded 12 (stored_item no_item) (map stored_item done)
  pub many : k ≡ length done
  pub within : next ≤ length s
  pub long : length seen ≡ 256
  pub marks : (i : ℕ) → i < 256 → get_or seen i false ≡ in? i (identifiers done)
  pub rest : (l : List Item) → Stay l → gather item_bytes l ≡ drop from s → Rest s next done l

pub come-none : (s : List ℕ) (from : ℕ) {none : held.Item} → none ≡ stored_item no_item → from ≤ length s → Come s from (replicate 12 none) (replicate 256 false) from 0
unfolding gather every? repeats? in? some? padded
come-none s from e h =
    record {
      done = [];
      stay = record { few = omega arith; each = refl; apart = refl };
      bytes = refl;
      form = ap (λ (x : held.Item). replicate 12 x) e;
      many = refl;
      within = h;
      long = length-replicate 256 false;
      marks = λ i g. get_or-replicate 256 i false false g;
      rest = λ l t f. record { others = l; all = refl; bytes = f };
    }

module _ {s : List ℕ} {from : ℕ} {at : List held.Item} {seen : List Bool} {next k : ℕ} (c : Come s from at seen next k) where
  -- it ends here, where no further item can stand
  pub come-stop : ((x : Item) (l : List Item) → Stay (c.done ++ (x ∷ l)) → item_bytes x ++ gather item_bytes l ≡ drop next s → ⊥) → ItemsRead s from (record { at = at; count = k; next = next })
  unfolding gather
  come-stop f = record { done = c.done; stay = c.stay; bytes = c.bytes; at = c.form; count = c.many; within = c.within; only = λ l t e. go (c.rest l t e).others (subst Stay (c.rest l t e).all t) (c.rest l t e).bytes }
    where
      go : (l : List Item) → Stay (c.done ++ l) → gather item_bytes l ≡ drop next s → next ≡ length s
      go [] t e = omega (arith, ap length e, length-drop next s, c.within)
      go (x ∷ l) t e = absurd (f x l t e)

  pub come-full : 12 ≤ k → ItemsRead s from (record { at = at; count = k; next = next })
  come-full h = come-stop (λ x l t e. absurd (omega (arith, t.few, length-append c.done (x ∷ l), c.many)))

  pub come-end : {r : Option ℕ} → TextAt s next r → r ≡ None → ItemsRead s from (record { at = at; count = k; next = next })
  unfolding every?
  come-end o z =
      come-stop (λ x l t e.
      let p : (every? (proper_item document) c.done && (proper_item document x && every? (proper_item document) l)) ≡ true = sym (every_two (proper_item document) c.done (x ∷ l)) ∙ t.each in
      o.none z x (gather item_bytes l) (and_left (proper_item document x) _ (and_right (every? (proper_item document) c.done) _ p)) e)

  module _ {len : ℕ} (o : TextAt s next (Some len)) where
    -- the identifier there
    identifier-is : (x : Item) (l : List ℕ) → item_bytes x ++ l ≡ drop next s → byte s (next + 2) ≡ x.identifier
    unfolding item_bytes
    identifier-is x l e = sym (get_or-drop next s 2 0) ∙ ap (λ (t : List ℕ). byte t 2) (sym e)

    pub come-twice : byte s (next + 2) < 256 → get_or seen (byte s (next + 2)) false ≡ true → ItemsRead s from (record { at = at; count = k; next = next })
    come-twice h e =
        come-stop (λ x l t f.
        let i = identifier-is x (gather item_bytes l) f in
        let there : in? x.identifier (identifiers c.done) ≡ true = ap (λ (n : ℕ). in? n (identifiers c.done)) (sym i) ∙ sym (c.marks (byte s (next + 2)) h) ∙ e in
        clashing (ap (λ (j : List ℕ). repeats? j []) (map-append (λ (y : Item). y.identifier) c.done (x ∷ l)) ∙ twice (identifiers c.done) x.identifier (identifiers l) there) t.apart)

    -- the item is read
    module _ (room : k < 12) (small : byte s (next + 2) < 256) (missed : get_or seen (byte s (next + 2)) false ≡ false) where
      abbrev new : Item
      new = item_at s next len

      missing : in? (byte s (next + 2)) (identifiers c.done) ≡ false
      missing = sym (c.marks (byte s (next + 2)) small) ∙ missed

      more-stay : Stay (c.done ++ (new ∷ []))
      unfolding item_at every?
      more-stay =
          record {
            few = omega (arith, length-append c.done (new ∷ []), c.many);
            each = every_two (proper_item document) c.done (new ∷ []) ∙ rw (c.stay.each, (o.some len refl).1) refl;
            apart = ap (λ (l : List ℕ). repeats? l []) (map-append (λ (x : Item). x.identifier) c.done (new ∷ [])) ∙ fresh-more (identifiers c.done) (byte s (next + 2)) c.stay.apart missing;
          }

      more-marks : (i : ℕ) → i < 256 → get_or (set seen (byte s (next + 2)) true) i false ≡ in? i (identifiers (c.done ++ (new ∷ [])))
      unfolding in? some? item_at
      more-marks i h =
          go (byte s (next + 2) == i) refl
          ∙ sym (ap (in? i) (map-append (λ (x : Item). x.identifier) c.done (new ∷ [])) ∙ some-append (λ n. n == i) (identifiers c.done) (byte s (next + 2) ∷ []))
        where
          go : (b : Bool) → (byte s (next + 2) == i) ≡ b → get_or (set seen (byte s (next + 2)) true) i false ≡ (in? i (identifiers c.done) || ((byte s (next + 2) == i) || false))
          go true q =
              let e : byte s (next + 2) ≡ i = eqb-true (byte s (next + 2)) i q in
              ap (λ (n : ℕ). get_or (set seen (byte s (next + 2)) true) n false) (sym e)
              ∙ get_or-set_same seen (byte s (next + 2)) true false (omega (arith, small, c.long))
              ∙ sym (rw q (or-true (in? i (identifiers c.done))))
          go false q = get_or-set_other seen (byte s (next + 2)) i true false (λ e. eqb-false (byte s (next + 2)) i q (sym e)) ∙ c.marks i h ∙ sym (rw q (or-false (in? i (identifiers c.done))))

      more-rest : (l : List Item) → Stay l → gather item_bytes l ≡ drop from s → Rest s (next + 3 + len) (c.done ++ (new ∷ [])) l
      unfolding gather
      more-rest l t e = let r = c.rest l t e in go r.others r.all r.bytes
        where
          go : (k : List Item) → l ≡ c.done ++ k → gather item_bytes k ≡ drop next s → Rest s (next + 3 + len) (c.done ++ (new ∷ [])) l
          go [] q f = absurd (omega (arith, ap length f, length-drop next s, (o.some len refl).2))
          go (x ∷ k) q f =
              let w = item-same x new (gather item_bytes k) (drop (next + 3 + len) s) (f ∙ sym (o.some len refl).0) in
              record { others = k; all = q ∙ ap (λ (y : Item). c.done ++ (y ∷ k)) w.0 ∙ sym (append_snoc c.done new k); bytes = w.1 }

      gather-more : (l : List Item) (x : Item) → gather item_bytes (l ++ (x ∷ [])) ≡ gather item_bytes l ++ item_bytes x
      unfolding gather
      gather-more [] x = append-nil (item_bytes x)
      gather-more (y ∷ l) x = ap (λ (t : List ℕ). item_bytes y ++ t) (gather-more l x) ∙ sym (append_assoc (item_bytes y) (gather item_bytes l) (item_bytes x))

      item-is : {text : List ℕ} → text ≡ padded 15 0 (take 15 (take (next + 3 + len - (next + 3)) (drop (next + 3) s))) → ◌≡◌ {A = held.Item} (record { identifier = byte s (next + 2); text = text; len = len }) (stored_item new)
      unfolding stored_item item_at
      item-is e =
          let h = o.some len refl in
          let n : length (take len (drop (next + 3) s)) ≡ len = length-take-le len (drop (next + 3) s) (omega (arith, h.2, length-drop (next + 3) s)) in
          rw (e, part_held (next + 3) len 15 (drop (next + 3) s) h.3, n) refl

      pub come-more : {text : List ℕ} → text ≡ padded 15 0 (take 15 (take (next + 3 + len - (next + 3)) (drop (next + 3) s))) → Come s from (set at k (record { identifier = byte s (next + 2); text = text; len = len })) (set seen (byte s (next + 2)) true) (next + 3 + len) (k + 1)
      come-more {text} e =
          record {
            done = c.done ++ (new ∷ []);
            stay = more-stay;
            bytes = ap (λ (l : List ℕ). l ++ drop (next + 3 + len) s) (gather-more c.done new) ∙ append_assoc (gather item_bytes c.done) (item_bytes new) (drop (next + 3 + len) s) ∙ ap (λ (l : List ℕ). gather item_bytes c.done ++ l) (o.some len refl).0 ∙ c.bytes;
            form = push 12 (stored_item no_item) (map stored_item c.done) at k _ c.form (c.many ∙ sym (map-length stored_item c.done)) room ∙ ap (padded 12 (stored_item no_item)) (ap (λ (x : held.Item). map stored_item c.done ++ (x ∷ [])) (item-is e) ∙ sym (map-append stored_item c.done (new ∷ [])));
            many = omega (arith, length-append c.done (new ∷ []), c.many);
            within = (o.some len refl).2;
            long = length-set seen (byte s (next + 2)) true ∙ c.long;
            marks = more-marks;
            rest = more-rest;
          }
