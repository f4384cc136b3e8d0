-- What is stated of an upload whose bytes are taken block by block.
use Rattle.std.proofs.Common.{◌≡◌, ◌⊎◌, inl, inr, ℕ, zero, suc, ◌+◌, ◌-◌, ◌<◌, ◌≤◌, nat_le, nat_lt, min, Bool, true, false, ◌||◌, ◌&&◌, not, if◌then◌else◌, Option, Some, None, List, [], ◌∷◌, ◌++◌, map, length, take, drop, length-append, refl, sym, ap, ◌∙◌, subst, arith}
use Rattle.std.proofs.lemmas.Bool.{le-leb, lt-leb, leb-true, ltb-true, ltb-false, cond-true, cond-false}
use Rattle.std.proofs.lemmas.List.{take_all, take-append-le}
use Rattle.crdt_core.specs.Members.{OneOf}
use Rattle.flow_model.specs.Blocks.{inline_limit}
use Rattle.store_model.specs.Acts.{HasKey}
use Rattle.s3_model.specs.declared.ask.Ask.{Ask}
use Rattle.s3_model.specs.declared.ask.Ask.TheVariants as ask
use Rattle.s3_model.specs.declared.fault.Code.{Code}
use Rattle.s3_model.specs.declared.fault.Code.TheVariants.{NoSuchBucket, KeyTooLongError, BadDigest, InvalidArgument, AccessDenied, IncompleteBody, XAmzContentSHA256Mismatch}
use Rattle.s3_model.specs.Sources.{is_long_key}
use Rattle.flow_model.specs.declared.flow.FlowEnd.{FlowEnd}
use Rattle.serve_model.specs.declared.answer.Answer.TheVariants.{Refusal}
use Rattle.serve_model.specs.declared.buckets.Buckets.{Buckets}
use Rattle.serve_model.specs.declared.request.Request.{Request}
use Rattle.serve_model.specs.Judging.{IsKeyed, bucket_of, key_of, is_missing, has_wrong_digest, has_bad_argument, source_bucket, differs, is_denied, refusal_of, upload_in, counted_after}
use Rattle.serve_model.specs.declared.upload.Upload.{Upload}
use Rattle.serve_model.specs.Stores.{Job, keep, leave, stream_of, IsLeftOf, Store, Asking}
use Rattle.serve_model.specs.Talk.{Serving, Stop, said, passing, text_of, asking_now, left_turn, leaving_turn, came_turn, below, cut_after, while_coming, received_turn, stream_turn}
use Rattle.serve_model.proofs.Ones.{one_left}
use Rattle.serve_loop.specs.Giving.{IsNoGet}
use Rattle.serve_loop.specs.Sums.{sent_md5, is_other_md5, refusal_of_sums}
use Rattle.serve_loop.specs.Taking.{IsPut, IsStreamed}
use Rattle.serve_loop.proofs.Bodies.{front_is, rest_is}

-- ---- a request that is streamed

none_is_some : (u : Upload) → None ≡ Some u → ⊥
none_is_some u e = cc

same_upload : (v u : Upload) → Some v ≡ Some u → v ≡ u
same_upload v u e = cc

-- what is known of an ask of so long a body that is taken so
pub record IsTakenAs (size : ℕ) (a : Ask) (u : Upload) : Type 0 where
  pub put : IsPut a
  pub size_is : u.length ≡ size
  pub keyed : IsKeyed a → HasKey (stream_of u)

module _ (size : ℕ) (bucket key : List ℕ) (headers : List (List ℕ × List ℕ)) (announced : ℕ) (md5 : Option (List ℕ)) (u : Upload) where
  abbrev this : Upload
  this = record { bucket = bucket; key = key; length = size; headers = headers }

  abbrev if_so : Bool → Option Upload
  if_so b = if b then Some this else None

  put_taken : (long refused : Bool) → nat_le inline_limit size ≡ long → if_so (long && not refused) ≡ Some u → IsTakenAs size (ask.Put bucket key announced md5 headers) u
  put_taken true false long e =
      let same = same_upload this u e in
      subst (IsTakenAs size (ask.Put bucket key announced md5 headers)) same (record { put = tt; size_is = refl; keyed = λ k. (k, leb-true inline_limit size long) })
  put_taken true true long e = absurd (none_is_some u e)
  put_taken false refused long e = absurd (none_is_some u e)

pub taken_as : (buckets : List (List ℕ)) (size : ℕ) (a : Ask) (u : Upload) → upload_in buckets size a ≡ Some u → IsTakenAs size a u
taken_as buckets size (ask.Put bucket key announced md5 headers) u e =
    put_taken size bucket key headers announced md5 u (nat_le inline_limit size) (is_missing buckets (Some bucket) || is_long_key key) refl e
taken_as buckets size ask.ListBuckets u e = absurd (none_is_some u e)
taken_as buckets size (ask.HeadBucket bucket) u e = absurd (none_is_some u e)
taken_as buckets size (ask.List bucket list delimiter url token start) u e = absurd (none_is_some u e)
taken_as buckets size (ask.BadList bucket) u e = absurd (none_is_some u e)
taken_as buckets size (ask.Get bucket key range) u e = absurd (none_is_some u e)
taken_as buckets size (ask.Head bucket key range) u e = absurd (none_is_some u e)
taken_as buckets size (ask.Delete bucket key) u e = absurd (none_is_some u e)
taken_as buckets size (ask.Copy from bucket key headers) u e = absurd (none_is_some u e)

pub put_is_no_get : (a : Ask) → IsPut a → IsNoGet a
put_is_no_get (ask.Put bucket key announced md5 headers) h = tt
put_is_no_get (ask.Get bucket key range) h = absurd h
put_is_no_get ask.ListBuckets h = absurd h
put_is_no_get (ask.HeadBucket bucket) h = absurd h
put_is_no_get (ask.List bucket list delimiter url token start) h = absurd h
put_is_no_get (ask.BadList bucket) h = absurd h
put_is_no_get (ask.Head bucket key range) h = absurd h
put_is_no_get (ask.Delete bucket key) h = absurd h
put_is_no_get (ask.Copy from bucket key headers) h = absurd h

-- nothing is counted after it
pub put_counts_none : (a : Ask) (end : FlowEnd) → IsPut a → 0 ≡ counted_after a end
put_counts_none (ask.Put bucket key announced md5 headers) end h = refl
put_counts_none (ask.Get bucket key range) end h = absurd h
put_counts_none ask.ListBuckets end h = absurd h
put_counts_none (ask.HeadBucket bucket) end h = absurd h
put_counts_none (ask.List bucket list delimiter url token start) end h = absurd h
put_counts_none (ask.BadList bucket) end h = absurd h
put_counts_none (ask.Head bucket key range) end h = absurd h
put_counts_none (ask.Delete bucket key) end h = absurd h
put_counts_none (ask.Copy from bucket key headers) end h = absurd h

-- ---- its refusal once all bytes came

-- of which digests alone are left
abbrev judged : Buckets → Option (List ℕ) → Option ℕ → Ask → List ℕ → Option Code
judged buckets digest who a body =
    if differs digest body then Some XAmzContentSHA256Mismatch
    else if is_missing buckets.names (bucket_of a) then Some NoSuchBucket
    else if is_long_key (key_of a) then Some KeyTooLongError
    else if has_wrong_digest a body then Some BadDigest
    else if has_bad_argument a then Some InvalidArgument
    else if is_denied buckets.access who (source_bucket a) then Some AccessDenied
    else if is_missing buckets.names (source_bucket a) then Some NoSuchBucket
    else None

abbrev summed : Option (List ℕ) → Ask → List ℕ → Option Code
summed digest a body = if differs digest body then Some XAmzContentSHA256Mismatch else if is_other_md5 (sent_md5 a) body then Some BadDigest else None

module _ (u : Upload) where
  chain : (v : Upload) (d long missing too_long wrong : Bool) → (if long && not (missing || too_long) then Some v else None) ≡ Some u →
      (if d then Some XAmzContentSHA256Mismatch else if wrong then Some BadDigest else None) ≡
      (if d then Some XAmzContentSHA256Mismatch else if missing then Some NoSuchBucket else if too_long then Some KeyTooLongError else if wrong then Some BadDigest else None)
  chain v d true false false wrong e = refl
  chain v d true false true wrong e = absurd (none_is_some u e)
  chain v d true true too_long wrong e = absurd (none_is_some u e)
  chain v d false missing too_long wrong e = absurd (none_is_some u e)

  same_judged : (buckets : Buckets) (digest : Option (List ℕ)) (who : Option ℕ) (size : ℕ) (a : Ask) (body : List ℕ) → upload_in buckets.names size a ≡ Some u → summed digest a body ≡ judged buckets digest who a body
  same_judged buckets digest who size (ask.Put bucket key announced None headers) body e =
      chain (record { bucket = bucket; key = key; length = size; headers = headers }) (differs digest body) (nat_le inline_limit size) (is_missing buckets.names (Some bucket)) (is_long_key key) false e
  same_judged buckets digest who size (ask.Put bucket key announced (Some sent) headers) body e =
      chain (record { bucket = bucket; key = key; length = size; headers = headers }) (differs digest body) (nat_le inline_limit size) (is_missing buckets.names (Some bucket)) (is_long_key key) (is_other_md5 (Some sent) body) e
  same_judged buckets digest who size ask.ListBuckets body e = absurd (none_is_some u e)
  same_judged buckets digest who size (ask.HeadBucket bucket) body e = absurd (none_is_some u e)
  same_judged buckets digest who size (ask.List bucket list delimiter url token start) body e = absurd (none_is_some u e)
  same_judged buckets digest who size (ask.BadList bucket) body e = absurd (none_is_some u e)
  same_judged buckets digest who size (ask.Get bucket key range) body e = absurd (none_is_some u e)
  same_judged buckets digest who size (ask.Head bucket key range) body e = absurd (none_is_some u e)
  same_judged buckets digest who size (ask.Delete bucket key) body e = absurd (none_is_some u e)
  same_judged buckets digest who size (ask.Copy from bucket key headers) body e = absurd (none_is_some u e)

pub same_refusal : (buckets : Buckets) (r : Request) (u : Upload) (body : List ℕ) → IsStreamed buckets r u → refusal_of_sums r body ≡ refusal_of buckets r body
same_refusal buckets r u body e = same_judged u buckets r.digest r.who r.length r.ask body e

-- ---- the bytes that came first

-- the bytes that were taken are the first of those that it has in all
pub first_taken : (all came rest : List ℕ) (size : ℕ) → all ≡ came ++ rest → length came ≤ size → (more : List ℕ) × (came ++ more ≡ take size all)
first_taken all came rest size e le =
    let front = take_more came rest size le in
    (take (size - length came) rest, sym (ap (take size) e ∙ front))
  where
    take_more : (came rest : List ℕ) (size : ℕ) → length came ≤ size → take size (came ++ rest) ≡ came ++ take (size - length came) rest
    take_more [] rest size le = let none : size ≡ size - 0 = omega arith in ap (λ n. take n rest) none
    take_more (b ∷ came) rest zero le = absurd (let more : suc (length came) ≤ 0 = le in omega (arith, more))
    take_more (b ∷ came) rest (suc size) le =
        let more : suc (length came) ≤ suc size = le in
        let less : size - length came ≡ suc size - suc (length came) = omega arith in
        ap (λ (bytes : List ℕ). b ∷ bytes) (take_more came rest size (omega (arith, more)) ∙ ap (λ n. came ++ take n rest) less)

-- ---- places where it may be cut off

one_below : {A : Type 0} (P : A → Type 0) (f : ℕ → A) (n m : ℕ) → n < m → P (f n) → OneOf P (map f (below m))
one_below P f n zero lt h = absurd (omega (arith, lt))
one_below P f n (suc m) lt h =
    elim (nat_lt n m) as (λ b. nat_lt n m ≡ b → P (f m) ⊎ OneOf P (map f (below m))) [
      | true ↦ λ less. inr (one_below P f n m (ltb-true n m less) h)
      | false ↦ λ more. let same : n ≡ m = (let le = ltb-false n m more in omega (arith, lt, le)) in inl (subst (λ k. P (f k)) same h)
    ] refl

-- ---- its turn

module _ {S : Type 0} (store : Store S) (buckets : Buckets) (r : Request) (u : Upload) (p : Serving S) where
  -- all its bytes came
  pub whole_turn_is : (all came rest : List ℕ) → all ≡ came ++ rest → length came ≡ r.length →
      stream_turn store buckets r u p all ≡ passing p (while_coming store r u came p (came_turn store r u (refusal_of buckets r came) came p rest))
  unfolding stream_turn
  whole_turn_is all came rest e len =
      let long : length all ≡ length came + length rest = ap length e ∙ length-append came rest in
      ap (λ c. passing p (while_coming store r u c p (received_turn store buckets r u c p all))) (front_is all came rest r.length e len)
      ∙ ap (λ t. passing p (while_coming store r u came p t))
      (cond-true (nat_le r.length (length all)) (came_turn store r u (refusal_of buckets r came) came p (drop r.length all)) (leaving_turn store r u IncompleteBody came p all) (le-leb r.length (length all) (omega (arith, long, len)))
      ∙ ap (λ x. came_turn store r u (refusal_of buckets r came) came p x) (rest_is all came rest r.length e len))

  -- the input ended before
  pub short_turn_is : (all : List ℕ) → length all < r.length → stream_turn store buckets r u p all ≡ passing p (while_coming store r u all p (leaving_turn store r u IncompleteBody all p all))
  unfolding stream_turn
  short_turn_is all lt =
      ap (λ c. passing p (while_coming store r u c p (received_turn store buckets r u c p all))) (take_all r.length all (omega (arith, lt)))
      ∙ ap (λ t. passing p (while_coming store r u all p t))
      (cond-false (nat_le r.length (length all)) (came_turn store r u (refusal_of buckets r all) all p (drop r.length all)) (leaving_turn store r u IncompleteBody all p all) (lt-leb r.length (length all) lt))

  -- what the store is asked: an upload of which these bytes came first is kept or given up
  pub asked_of : (Q : List (Asking S) → Type 0) (all came rest : List ℕ) → all ≡ came ++ rest → length came ≤ r.length →
      ((job : Job) (later : List (Asking S)) → IsLeftOf (leave u came) job → Q (asking_now r job p ∷ later)) → Q (stream_turn store buckets r u p all).asks
  unfolding stream_turn
  asked_of Q all came rest e le f =
      let first : IsLeftOf (leave u came) (leave u (take r.length all)) = (refl, first_taken all came rest r.length e le) in
      elim (nat_le r.length (length all)) as (λ b. Q (if b then came_turn store r u (refusal_of buckets r (take r.length all)) (take r.length all) p (drop r.length all) else leaving_turn store r u IncompleteBody (take r.length all) p all).asks) [
        | true ↦ elim (refusal_of buckets r (take r.length all)) as (λ c. Q (came_turn store r u c (take r.length all) p (drop r.length all)).asks) [
          | Some code ↦ f (leave u (take r.length all)) _ first
          | None ↦ f (keep u (take r.length all)) _ first
        ]
        | false ↦ f (leave u (take r.length all)) _ first
      ]

  -- the place where it's given up after these bytes
  abbrev pub left_stop : List ℕ → Stop S
  left_stop came = record { text = []; asks = asking_now r (leave u came) p ∷ []; serving = record p { store = (store.carries p.store r.time (leave u came)).state }; uploads = true }

  -- it may be cut off there when these came
  pub cut_here : (P : Stop S → Type 0) (all came rest : List ℕ) → all ≡ came ++ rest → length came < r.length → u.length ≡ r.length → P (left_stop came) → OneOf P (stream_turn store buckets r u p all).stops
  unfolding stream_turn
  cut_here P all came rest e lt size h =
      let first = first_taken all came rest r.length e (omega (arith, lt)) in
      let longer : length came ≤ length (take r.length all) = (let sum = ap length (sym first.1) ∙ length-append came first.0 in omega (arith, sum)) in
      let here : take (length came) (take r.length all) ≡ came =
      ap (take (length came)) (sym first.1) ∙ (take-append-le (length came) came first.0 (omega arith) ∙ take_all (length came) came (omega arith)) in
      let stop_is : cut_after store r u (take r.length all) p (length came) ≡ left_stop came = ap left_stop here in
      inr (inr (one_left P (map (cut_after store r u (take r.length all) p) (below (min (suc (length (take r.length all))) u.length))) (received_turn store buckets r u (take r.length all) p all).stops
      (one_below P (cut_after store r u (take r.length all) p) (length came) (min (suc (length (take r.length all))) u.length) (omega (arith, longer, lt, size)) (subst P (sym stop_is) h))))

-- the connection closes after it, so nothing hangs on what is left
or_true : (b : Bool) → (b || true) ≡ true
or_true true = refl
or_true false = refl

pub short_left : {S : Type 0} (r : Request) (end : Option FlowEnd) (q : Serving S) (all rest : List ℕ) → left_turn r IncompleteBody end q all ≡ left_turn r IncompleteBody end q rest
short_left r None q all rest = refl
short_left r (Some end) q all rest =
    let text = text_of r (Refusal IncompleteBody) in
    ap (λ b. said text b q all) (or_true r.closes) ∙ ap (λ b. said text b q rest) (sym (or_true r.closes))
