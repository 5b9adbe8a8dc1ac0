-- A printed site says itself. Assumes nothing.
use Rattle.std.proofs.Common.{◌≡◌, ℕ, ◌≤◌, List, [], ◌∷◌, ◌++◌, map, sym, refl, ap, ◌∙◌, subst, arith}
use native.Mathlib.Nat.{min-eq_left}
use Rattle.std.specs.List.{flat_map, AllByRecursion}
use Rattle.std.proofs.lemmas.Grind.{flat_map-append}
use Rattle.std.proofs.lemmas.List.{append_assoc, append-nil}
use Rattle.rules.proofs.Members.{all_of_map}
use Rattle.costs.specs.declared.pair.Pair.{Pair}
use Rattle.costs.specs.declared.total.Total.{Total}
use Rattle.costs.specs.declared.worst.Worst.{Worst}
use Rattle.costs.specs.Totals.{total_same}
use Rattle.costs.specs.Worsts.{worst_same}
use Rattle.sites.specs.declared.records.Record.{Record}
use Rattle.sites.specs.declared.records.Record.TheVariants.{Horizon, Places, Lane, BothLanes, Tariff, Cart}
use Rattle.sites.specs.Records.{Fitting}
use Rattle.sites.specs.Sites.{cost_of, lanes_in, tariff_in, carts_in, SiteData, said, rank, last_rank, MayFollow, EachAfter, Placed, WellFormed}
use Rattle.sites.proofs.RecordLists.{last_push}
use Rattle.sites.specs.Promises.{tariff_record, cart_record, site_records}

joined_none : {X Y Z : Type 0} (f : Y → List Z) (g : X → Y) → ((x : X) → f (g x) ≡ []) → (xs : List X) → flat_map f (map g xs) ≡ []
joined_none f g e [] = refl
joined_none f g e (x ∷ xs) = ap (λ t. t ++ flat_map f (map g xs)) (e x) ∙ joined_none f g e xs

joined_one : {X Y : Type 0} (f : Y → List X) (g : X → Y) (P : X → Type 0) → ((x : X) → P x → f (g x) ≡ x ∷ []) → (xs : List X) → AllByRecursion P xs → flat_map f (map g xs) ≡ xs
joined_one f g P e [] h = refl
joined_one f g P e (x ∷ xs) h = ap (λ t. t ++ flat_map f (map g xs)) (e x h.0) ∙ ap (λ t. x ∷ t) (joined_one f g P e xs h.1)

all_left : {X : Type 0} (P : X → Type 0) (xs ys : List X) → AllByRecursion P (xs ++ ys) → AllByRecursion P xs × AllByRecursion P ys
all_left P [] ys h = (tt, h)
all_left P (x ∷ xs) ys h = let k = all_left P xs ys h.1 in ((h.0, k.0), k.1)

all_any : {X : Type 0} (xs : List X) → AllByRecursion (λ x. Unit {0}) xs
all_any [] = tt
all_any (x ∷ xs) = (tt, all_any xs)

pub cost_same : (c : Pair Total Worst) → c.first.value ≤ 65535 → c.second.value ≤ 65535 → cost_of c.first.value c.second.value ≡ c
cost_same c p q =
    let first = total_same (cost_of c.first.value c.second.value).first c.first (min-eq_left p) in
    let second = worst_same (cost_of c.first.value c.second.value).second c.second (min-eq_left q) in
    λ i. record { first = first i; second = second i }

module _ (s : SiteData) where
  rest_of : {Y : Type 0} (f : Record → List Y) → flat_map f (map Lane s.lanes ++ (map tariff_record s.tariff ++ map cart_record s.carts)) ≡ flat_map f (map Lane s.lanes) ++ (flat_map f (map tariff_record s.tariff) ++ flat_map f (map cart_record s.carts))
  rest_of f =
      flat_map-append f (map Lane s.lanes) _
      ∙ ap (λ t. flat_map f (map Lane s.lanes) ++ t) (flat_map-append f (map tariff_record s.tariff) (map cart_record s.carts))

  lanes-back : (said (site_records s)).lanes ≡ s.lanes
  lanes-back =
      let a = joined_one lanes_in Lane (λ l. Unit {0}) (λ l h. refl) s.lanes (all_any s.lanes) in
      let b = joined_none lanes_in tariff_record (λ c. refl) s.tariff in
      let d = joined_none lanes_in cart_record (λ c. refl) s.carts in
      rest_of lanes_in ∙ (λ i. a i ++ (b i ++ d i)) ∙ append-nil s.lanes

  carts_back : (said (site_records s)).carts ≡ s.carts
  carts_back =
      let a = joined_none carts_in Lane (λ l. refl) s.lanes in
      let b = joined_none carts_in tariff_record (λ c. refl) s.tariff in
      let d = joined_one carts_in cart_record (λ c. Unit {0}) (λ c h. refl) s.carts (all_any s.carts) in
      rest_of carts_in ∙ (λ i. a i ++ (b i ++ d i))

  module _ (fits : AllByRecursion Fitting (site_records s)) where
    tariff_fits : AllByRecursion (λ c. Fitting (tariff_record c)) s.tariff
    tariff_fits = all_of_map Fitting tariff_record s.tariff (all_left Fitting (map tariff_record s.tariff) _ (all_left Fitting (map Lane s.lanes) _ fits.1.1).1).0

    tariff_back : (said (site_records s)).tariff ≡ s.tariff
    tariff_back =
        let a = joined_none tariff_in Lane (λ l. refl) s.lanes in
        let b = joined_one tariff_in tariff_record (λ c. Fitting (tariff_record c)) (λ c h. ap (λ x. x ∷ []) (cost_same c h.0 h.1.0)) s.tariff tariff_fits in
        let d = joined_none tariff_in cart_record (λ c. refl) s.carts in
        rest_of tariff_in ∙ (λ i. a i ++ (b i ++ d i)) ∙ append-nil s.tariff

    pub said-back : said (site_records s) ≡ s
    said-back = λ i. record { horizon = s.horizon; places = s.places; lanes = lanes-back i; tariff = tariff_back i; carts = carts_back i }

-- a record whose turn has come may follow
may_follow : (last : ℕ) (r : Record) → 3 ≤ rank r → 2 ≤ last → last ≤ rank r → MayFollow last r
may_follow last (Horizon h) k a b = absurd (omega arith)
may_follow last (Places p) k a b = absurd (omega arith)
may_follow last (Lane l) k a b = (a, b)
may_follow last (BothLanes l) k a b = (a, b)
may_follow last (Tariff t w) k a b = (a, b)
may_follow last (Cart s g) k a b = (a, b)

-- records of one rank, and then others
run : (k : ℕ) (done rs rest : List Record) → 3 ≤ k → 2 ≤ last_rank done → last_rank done ≤ k → AllByRecursion (λ r. rank r ≡ k) rs → AllByRecursion Fitting rs → ((past : List Record) → 2 ≤ last_rank past → last_rank past ≤ k → EachAfter Placed past rest) → EachAfter Placed done (rs ++ rest)
run k done [] rest n low high same fits then = then done low high
run k done (r ∷ rs) rest n low high same fits then =
    let e = last_push done r in (
      record { fitting = fits.0; follows = may_follow (last_rank done) r (omega (arith, same.0)) low (omega (arith, same.0)) },
      run k (done ++ r ∷ []) rs rest n (omega (arith, same.0)) (omega (arith, same.0)) same.1 fits.1 then,
    )

rank-map : {X : Type 0} (k : ℕ) (g : X → Record) → ((x : X) → rank (g x) ≡ k) → (xs : List X) → AllByRecursion (λ r. rank r ≡ k) (map g xs)
rank-map k g e [] = tt
rank-map k g e (x ∷ xs) = (e x, rank-map k g e xs)

module _ (s : SiteData) (fits : AllByRecursion Fitting (site_records s)) where
  parts : AllByRecursion Fitting (map Lane s.lanes) × (AllByRecursion Fitting (map tariff_record s.tariff) × AllByRecursion Fitting (map cart_record s.carts))
  parts = let a = all_left Fitting (map Lane s.lanes) _ fits.1.1 in (a.0, all_left Fitting (map tariff_record s.tariff) _ a.1)

  carts_placed : (past : List Record) → 2 ≤ last_rank past → last_rank past ≤ 4 → EachAfter Placed past (map cart_record s.carts)
  carts_placed past low high =
      let P : List Record → Type 0 = EachAfter Placed past in
      subst P (append-nil (map cart_record s.carts))
      (run 5 past (map cart_record s.carts) [] (omega arith) low (omega arith) (rank-map 5 cart_record (λ c. refl) s.carts) parts.1.1 (λ q a b. tt))

  tariff_placed : (past : List Record) → 2 ≤ last_rank past → last_rank past ≤ 3 → EachAfter Placed past (map tariff_record s.tariff ++ map cart_record s.carts)
  tariff_placed past low high =
      run 4 past (map tariff_record s.tariff) _ (omega arith) low (omega arith) (rank-map 4 tariff_record (λ c. refl) s.tariff) parts.1.0 carts_placed

  pub printed_placed : EachAfter Placed [] (site_records s)
  printed_placed = (
    record { fitting = fits.0; follows = refl },
    (
      record { fitting = fits.1.0; follows = refl },
      run 3 _ (map Lane s.lanes) _ (omega arith) (omega arith) (omega arith) (rank-map 3 Lane (λ l. refl) s.lanes) parts.0 tariff_placed,
    ),
  )

-- ranks do not fall
rises : (last : ℕ) (r : Record) → MayFollow last r → last ≤ rank r
rises last (Horizon h) e = omega arith
rises last (Places p) e = omega arith
rises last (Lane l) e = e.1
rises last (BothLanes l) e = e.1
rises last (Tariff t w) e = e.1
rises last (Cart s g) e = e.1

last_from : (k : ℕ) (done rs : List Record) → k ≤ last_rank done → EachAfter Placed done rs → k ≤ last_rank (done ++ rs)
last_from k done [] h p = subst (λ (t : List Record). k ≤ last_rank t) (sym (append-nil done)) h
last_from k done (r ∷ rs) h p =
    let up = rises (last_rank done) r p.0.follows in
    let e = last_push done r in
    subst (λ (t : List Record). k ≤ last_rank t) (append_assoc done (r ∷ []) rs) (last_from k (done ++ r ∷ []) rs (omega arith) p.1)

pub printed_well_formed : (s : SiteData) → AllByRecursion Fitting (site_records s) → WellFormed (site_records s)
printed_well_formed s fits =
    let p = printed_placed s fits in
    record { placed = p; whole = last_from 2 (Horizon s.horizon ∷ (Places s.places ∷ [])) _ (omega arith) p.1.1 }
