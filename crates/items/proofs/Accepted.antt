-- What it means for an edit that none of its conditions is met.
use Rattle.std.proofs.Common.{◌≡◌, ℕ, zero, suc, ◌<◌, ◌≤◌, Bool, true, false, cond, not, ◌&&◌, ◌||◌, eqb, ltb, List, [], ◌∷◌, length, get_or, Some, None, Option, refl, ◌∙◌, ⊎_elim, le_of_suc-le-suc, not-suc-le-zero, arith}
use Rattle.std.proofs.lemmas.Bool.{or_parts, or_from, and_parts, and_from, and_cases, and_left, and_right, ltb-true, ltb-false, lt-ltb, le-ltb, lt-leb, leb-false, eqb-true, eqb-false, eq-eqb, ne_eqb, not-false, not_from_true, cond-true, cond-false, cases_eq}
use Rattle.items.specs.declared.Item.{Item}
use Rattle.items.specs.declared.Work.{Work}
use Rattle.items.specs.declared.Work.TheVariants.{Task, Frame}
use Rattle.items.specs.Items.{item_of}
use Rattle.items.specs.Conditions.{Check, first_met, outside, stands, priority_used, has_successor, bit_time_of, wrong_kind, work_outside, bad_predecessor, bad_timing, some_above, open_checks, open_refusal, place_checks, place_refusal, withdraw_checks, withdraw_refusal, retime_checks, retime_of, retime_refusal}
use Rattle.items.specs.Valid.{ValidWork, ValidItem}

abbrev NoneMet : List Check → Type 0
NoneMet [] = Unit
NoneMet (c ∷ cs) = (c.met ≡ false) × NoneMet cs

none_met : (cs : List Check) → first_met cs ≡ None → NoneMet cs
none_met [] e = tt
none_met (c ∷ cs) e = go c.met refl e (none_met cs)
  where
    go : (b : Bool) → c.met ≡ b → cond b (Some c.brings) (first_met cs) ≡ None → (first_met cs ≡ None → NoneMet cs) → NoneMet (c ∷ cs)
    go true is e rest = let z : ◌≡◌ {A = ℕ} 0 1 = cc in absurd (omega arith)
    go false is e rest = (is, rest e)

unmet : (cs : List Check) → NoneMet cs → first_met cs ≡ None
unmet [] none = refl
unmet (c ∷ cs) none = cond-false c.met (Some c.brings) (first_met cs) none.0 ∙ unmet cs none.1

inside : (low high n : ℕ) → outside low high n ≡ false → (low ≤ n) × (n ≤ high)
inside low high n e = let both = or_parts (ltb n low) (ltb high n) e in (ltb-false n low both.0, ltb-false high n both.1)

work_fits : (bit : ℕ) (w : Work) → wrong_kind bit w ≡ false → work_outside w ≡ false → ValidWork bit w
work_fits bit (Task low high) kind range =
    let first = or_parts (ltb low 1) ((ltb high low) || (ltb 10000000 high)) range in
    let rest = or_parts (ltb high low) (ltb 10000000 high) first.1 in
    (eqb-true bit 0 (not-false (eqb bit 0) kind), ltb-false low 1 first.0, ltb-false high low rest.0, ltb-false 10000000 high rest.1)
work_fits bit (Frame bytes) kind range = let some = eqb-false bit 0 kind in (positive bit some, ltb-false 8 bytes range)
  where
    positive : (n : ℕ) → (n ≡ 0 → ⊥) → 1 ≤ n
    positive zero ne = absurd (ne refl)
    positive (suc n) ne = omega arith

head_fits : (x : Item) → bad_timing x ≡ false → x.predecessor ≡ 0 → (1 ≤ x.period) × (x.period ≤ 10000000) × (x.delay ≤ 10000000)
head_fits x e z =
    let test : cond (eqb x.predecessor 0) ((outside 1 10000000 x.period) || (ltb 10000000 x.delay)) (not (eqb x.period 0) || not (eqb x.delay 0)) ≡ false = e in
    let both = or_parts (outside 1 10000000 x.period) (ltb 10000000 x.delay) (rw (eq-eqb x.predecessor 0 z) at test) in
    let period = inside 1 10000000 x.period both.0 in
    (period.0, period.1, ltb-false 10000000 x.delay both.1)

other_fits : (x : Item) → bad_timing x ≡ false → (x.predecessor ≡ 0 → ⊥) → (x.period ≡ 0) × (x.delay ≡ 0)
other_fits x e ne =
    let test : cond (eqb x.predecessor 0) ((outside 1 10000000 x.period) || (ltb 10000000 x.delay)) (not (eqb x.period 0) || not (eqb x.delay 0)) ≡ false = e in
    let both = or_parts (not (eqb x.period 0)) (not (eqb x.delay 0)) (rw (ne_eqb x.predecessor 0 ne) at test) in
    (eqb-true x.period 0 (not-false (eqb x.period 0) both.0), eqb-true x.delay 0 (not-false (eqb x.delay 0) both.1))

predecessor_fits : (x : Item) (xs : List Item) → bad_predecessor x xs ≡ false → (x.predecessor ≡ 0 → ⊥) → (x.predecessor < x.number) × (stands x.predecessor xs ≡ true)
predecessor_fits x xs e ne =
    ⊎_elim
    (λ head. absurd (ne (eqb-true x.predecessor 0 (not-false (eqb x.predecessor 0) head))))
    (λ link.
    let both = and_parts (ltb x.predecessor x.number) (stands x.predecessor xs) (not-false ((ltb x.predecessor x.number) && stands x.predecessor xs) link) in
    (ltb-true x.predecessor x.number both.0, both.1))
    (and_cases (not (eqb x.predecessor 0)) (not ((ltb x.predecessor x.number) && stands x.predecessor xs)) e)

-- what an item has that can be placed
pub record Placeable (bits : List ℕ) (xs : List Item) (x : Item) : Type 0 where
  pub valid : ValidItem bits x
  pub new : stands x.number xs ≡ false
  pub unused : priority_used x.resource x.priority xs ≡ false
  pub linked : (x.predecessor ≡ 0 → ⊥) → (x.predecessor < x.number) × (stands x.predecessor xs ≡ true)
  pub room : length xs < 256

pub placeable : (bits : List ℕ) (xs : List Item) (x : Item) → place_refusal bits xs x ≡ None → Placeable bits xs x
placeable bits xs x e =
    let number = none_met (place_checks bits xs x) e in
    let new = number.1 in
    let resource = new.1 in
    let priority = resource.1 in
    let unused = priority.1 in
    let kind = unused.1 in
    let range = kind.1 in
    let predecessor = range.1 in
    let timing = predecessor.1 in
    let room = timing.1 in
    let numbers = inside 1 999 x.number number.0 in
    let resources = inside 1 (length bits) x.resource resource.0 in
    record {
      valid = record {
        number_low = numbers.0;
        number_high = numbers.1;
        resource_low = resources.0;
        resource_high = resources.1;
        priority_high = ltb-false 2047 x.priority priority.0;
        work = work_fits (bit_time_of bits x.resource) x.work kind.0 range.0;
        head = head_fits x timing.0;
        other = other_fits x timing.0;
      };
      new = new.0;
      unused = unused.0;
      linked = predecessor_fits x xs predecessor.0;
      room = leb-false 256 (length xs) room.0;
    }

pub not_outside : (low high n : ℕ) → low ≤ n → n ≤ high → outside low high n ≡ false
not_outside low high n above below = or_from (ltb n low) (ltb high n) (le-ltb n low above) (le-ltb high n below)

kind_fits : (bit : ℕ) (w : Work) → ValidWork bit w → wrong_kind bit w ≡ false
kind_fits bit (Task low high) fits = not_from_true (eqb bit 0) (eq-eqb bit 0 fits.0)
kind_fits bit (Frame bytes) fits = ne_eqb bit 0 (λ zero. omega (arith, fits.0))

range_fits : (bit : ℕ) (w : Work) → ValidWork bit w → work_outside w ≡ false
range_fits bit (Task low high) fits = or_from (ltb low 1) (ltb high low || ltb 10000000 high) (le-ltb low 1 fits.1) (or_from (ltb high low) (ltb 10000000 high) (le-ltb high low fits.2) (le-ltb 10000000 high fits.3))
range_fits bit (Frame bytes) fits = le-ltb 8 bytes fits.1

predecessor_stands : (x : Item) (xs : List Item) → ((x.predecessor ≡ 0 → ⊥) → (x.predecessor < x.number) × (stands x.predecessor xs ≡ true)) → bad_predecessor x xs ≡ false
predecessor_stands x xs linked =
    ⊎_elim
    (λ head. and_left _ _ (not_from_true (eqb x.predecessor 0) (eq-eqb x.predecessor 0 head)))
    (λ ne.
    let both = linked ne in
    and_right (not (eqb x.predecessor 0)) _ (not_from_true (ltb x.predecessor x.number && stands x.predecessor xs) (and_from (ltb x.predecessor x.number) (stands x.predecessor xs) (lt-ltb x.predecessor x.number both.0) both.1)))
    (cases_eq x.predecessor 0)

timing_fits : (bits : List ℕ) (x : Item) → ValidItem bits x → bad_timing x ≡ false
timing_fits bits x valid =
    ⊎_elim
    (λ head.
    let fits = valid.head head in
    cond-true (eqb x.predecessor 0) _ _ (eq-eqb x.predecessor 0 head) ∙ or_from (outside 1 10000000 x.period) (ltb 10000000 x.delay) (not_outside 1 10000000 x.period fits.0 fits.1) (le-ltb 10000000 x.delay fits.2))
    (λ ne.
    let fits = valid.other ne in
    cond-false (eqb x.predecessor 0) _ _ (ne_eqb x.predecessor 0 ne) ∙ or_from (not (eqb x.period 0)) (not (eqb x.delay 0)) (not_from_true (eqb x.period 0) (eq-eqb x.period 0 fits.0)) (not_from_true (eqb x.delay 0) (eq-eqb x.delay 0 fits.1)))
    (cases_eq x.predecessor 0)

-- such an item is accepted
pub accepts : (bits : List ℕ) (xs : List Item) (x : Item) → Placeable bits xs x → place_refusal bits xs x ≡ None
accepts bits xs x can =
    let v = can.valid in
    let bit = bit_time_of bits x.resource in
    unmet (place_checks bits xs x) (
      not_outside 1 999 x.number v.number_low v.number_high,
      (
        can.new,
        (
          not_outside 1 (length bits) x.resource v.resource_low v.resource_high,
          (
            le-ltb 2047 x.priority v.priority_high,
            (
              can.unused,
              (
                kind_fits bit x.work v.work,
                (
                  range_fits bit x.work v.work,
                  (
                    predecessor_stands x xs can.linked,
                    (
                      timing_fits bits x v,
                      (lt-leb 256 (length xs) can.room, tt),
                    ),
                  ),
                ),
              ),
            ),
          ),
        ),
      ),
    )

pub withdrawable : (xs : List Item) (n : ℕ) → withdraw_refusal xs n ≡ None → (stands n xs ≡ true) × (has_successor n xs ≡ false)
withdrawable xs n e =
    let standing = none_met (withdraw_checks xs n) e in
    (not-false (stands n xs) standing.0, standing.1.0)

-- the item whose work can be replaced
pub record Retimable (bits : List ℕ) (xs : List Item) (n : ℕ) (w : Work) : Type 0 where
  pub item : Item
  pub is : item_of n xs ≡ Some item
  pub work : ValidWork (bit_time_of bits item.resource) w

pub retimable : (bits : List ℕ) (xs : List Item) (n : ℕ) (w : Work) → retime_refusal bits xs n w ≡ None → Retimable bits xs n w
retimable bits xs n w e = go (item_of n xs) refl e
  where
    go : (o : Option Item) → item_of n xs ≡ o → retime_of bits o w ≡ None → Retimable bits xs n w
    go None is e = let z : ◌≡◌ {A = ℕ} 0 1 = cc in absurd (omega arith)
    go (Some x) is e =
        let kind = none_met (retime_checks bits x w) e in
        record { item = x; is = is; work = work_fits (bit_time_of bits x.resource) w kind.0 kind.1.0 }

none_above : (limit : ℕ) (ns : List ℕ) → some_above limit ns ≡ false → (i : ℕ) → i < length ns → get_or ns i 0 ≤ limit
none_above limit [] e i h = absurd (not-suc-le-zero h)
none_above limit (n ∷ ns) e zero h = ltb-false limit n (or_parts (ltb limit n) (some_above limit ns) e).0
none_above limit (n ∷ ns) e (suc i) h = none_above limit ns (or_parts (ltb limit n) (some_above limit ns) e).1 i (le_of_suc-le-suc h)

pub not_above : (limit : ℕ) (ns : List ℕ) → ((i : ℕ) → i < length ns → get_or ns i 0 ≤ limit) → some_above limit ns ≡ false
not_above limit [] each = refl
not_above limit (n ∷ ns) each = or_from (ltb limit n) (some_above limit ns) (le-ltb limit n (each 0 (omega arith))) (not_above limit ns (λ i h. each (suc i) (omega arith)))

-- bit times with which a plan can be opened
pub record Openable (bits : List ℕ) : Type 0 where
  pub low : 1 ≤ length bits
  pub high : length bits ≤ 16
  pub each : (i : ℕ) → i < length bits → get_or bits i 0 ≤ 100

pub openable : (bits : List ℕ) → open_refusal bits ≡ None → Openable bits
openable bits e =
    let count = none_met (open_checks bits) e in
    let range = inside 1 16 (length bits) count.0 in
    record { low = range.0; high = range.1; each = none_above 100 bits count.1.0 }
