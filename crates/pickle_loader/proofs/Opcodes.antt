-- Each opcode's method is right for its row.
use Rattle.std.proofs.Common.{◌≡◌, ℕ, Bool, true, false, List, [], ◌∷◌, length, Option, None, refl, sym, subst}
use Rattle.std.specs.Prelude.{slice_index, ◌==◌, ◌&&◌, if◌then◌else◌}
use Rattle.pickle_ops.specs.declared.opcode.Opcode.{Opcode}
use Rattle.pickle_ops.specs.declared.opcode.Opcode.TheVariants as op
use Rattle.pickle_ops.specs.declared.form.Form.TheVariants as form
use Rattle.pickle_ops.specs.declared.kind.Kind.{Kind}
use Rattle.pickle_ops.specs.declared.kind.Kind.TheVariants as kind
use Rattle.pickle_ops.specs.declared.row.Row.TheVariants as row
use Rattle.pickle_ops.specs.declared.row.Taking.TheVariants as taking
use Rattle.pickle_ops.specs.Table.{form_of}
use Rattle.pickle_ops.specs.Shape.{value_fault}
use Rattle.pickle_ops.specs.Argument.{number_of, integer_of, payload, first_text, second_text}
use Rattle.pickle_ops.specs.Row.{row_of_opcode, kind_of_opcode}
use Rattle.pickle_loader.specs.Environment.{PyTuple, PyList, PyDict, PySet, PyByteArray, Plain, Find, Line, Persist}
use Rattle.pickle_loader.specs.Unpickler.{Raised, load_literal, load_get, load_put}
use Rattle.pickle_loader.specs.Dispatch.{with_int, literal_of, dispatch}
use Rattle.pickle_loader.specs.Listed.{protocol_after}
use Rattle.pickle_loader.proofs.Methods.{Here, unpickler, RowGood, frame_good, proto_good, literal_good, empty_good, get_good, ext_good, buffer_good, tuple_of_good, binpersid_good, reduce_good, newobj_good, newobj_ex_good, stack_global_good, tuple_good, list_good, frozenset_good, dict_good, inst_good, obj_good, pop_mark_good, mark_good, dup_good, put_good, memoize_good, memo_get_good, stop_good, pop_good}
use Rattle.pickle_loader.proofs.Keys.{plain_int, quoted_text}
use Rattle.pickle_loader.proofs.Fills.{append_good, setitem_good, appends_good, additems_good, setitems_good, build_good}
use Rattle.pickle_loader.proofs.Views.{readonly_good}

-- INT makes one of three kinds
int_by : (h : Here) (a b : Bool) (text : List ℕ) → RowGood h row.Push (if a then kind.False else (if b then kind.True else kind.IntLine text)) h.proto (load_literal (if a then kind.False else (if b then kind.True else kind.IntLine text)) (unpickler h))
int_by h true b text = literal_good h kind.False refl (λ vs. refl)
int_by h false true text = literal_good h kind.True refl (λ vs. refl)
int_by h false false text = literal_good h (kind.IntLine text) refl (λ vs. refl)

-- the kind that the row of an opcode makes where it makes none is looked at nowhere
pub opcode_good : (h : Here) (o : Opcode) (arg : List ℕ) → value_fault (form_of o) arg ≡ None → RowGood h (row_of_opcode o arg) (kind_of_opcode o arg) (protocol_after o arg h.proto) (dispatch h.w o arg (unpickler h))
opcode_good h op.Proto arg v = proto_good h kind.None (number_of form.Uint1 arg)
opcode_good h op.Frame arg v = frame_good h kind.None
opcode_good h op.PersId arg v = get_good h (kind.PersistentLine (payload form.Line arg)) (λ proto. Persist (Line (payload form.Line arg))) refl refl
opcode_good h op.BinPersId arg v = binpersid_good h
opcode_good h op.Int arg v =
    let text : List ℕ = payload form.Line arg in
    int_by h (length text == 2 && slice_index text 0 == 48 && slice_index text 1 == 48) (length text == 2 && slice_index text 0 == 48 && slice_index text 1 == 49) text
opcode_good h op.String arg v =
    let k : Kind = kind.LegacyLine (payload form.Quoted arg) in
    subst (λ (b : Bool). RowGood h row.Push k h.proto (if b then load_literal k (unpickler h) else Raised h.acts)) (sym (quoted_text arg v)) (literal_good h k refl (λ vs. refl))
opcode_good h op.ByteArray8 arg v = empty_good h (kind.ByteArray (payload form.Bytes8 arg)) PyByteArray (Plain (kind.Bytes (payload form.Bytes8 arg)) ∷ []) refl (λ vs. refl)
opcode_good h op.NextBuffer arg v = buffer_good h kind.None
opcode_good h op.ReadOnlyBuffer arg v = readonly_good h kind.None
opcode_good h op.Tuple arg v = tuple_good h
opcode_good h op.EmptyTuple arg v = empty_good h kind.Tuple PyTuple [] refl (λ vs. refl)
opcode_good h op.Tuple1 arg v = tuple_of_good h taking.One
opcode_good h op.Tuple2 arg v = tuple_of_good h taking.Two
opcode_good h op.Tuple3 arg v = tuple_of_good h taking.Three
opcode_good h op.EmptyList arg v = empty_good h kind.List PyList [] refl (λ vs. refl)
opcode_good h op.EmptyDict arg v = empty_good h kind.Dict PyDict [] refl (λ vs. refl)
opcode_good h op.EmptySet arg v = empty_good h kind.Set PySet [] refl (λ vs. refl)
opcode_good h op.FrozenSet arg v = frozenset_good h
opcode_good h op.List arg v = list_good h
opcode_good h op.Dict arg v = dict_good h
opcode_good h op.Inst arg v = inst_good h (first_text arg) (second_text arg)
opcode_good h op.Obj arg v = obj_good h
opcode_good h op.NewObj arg v = newobj_good h
opcode_good h op.NewObjEx arg v = newobj_ex_good h
opcode_good h op.Global arg v = get_good h (kind.Global (record { first = first_text arg; second = second_text arg })) (λ proto. Find proto (Line (first_text arg)) (Line (second_text arg))) refl refl
opcode_good h op.StackGlobal arg v = stack_global_good h
opcode_good h op.Ext1 arg v = ext_good h (integer_of form.Uint1 arg)
opcode_good h op.Ext2 arg v = ext_good h (integer_of form.Uint2 arg)
opcode_good h op.Ext4 arg v = ext_good h (integer_of form.Int4 arg)
opcode_good h op.Reduce arg v = reduce_good h
opcode_good h op.Pop arg v = pop_good h kind.None
opcode_good h op.PopMark arg v = pop_mark_good h kind.None
opcode_good h op.Dup arg v = dup_good h kind.None
opcode_good h op.Get arg v =
    subst (λ (x : Option ℕ). RowGood h (row.Get (number_of form.Decimal arg)) kind.None h.proto (with_int x (unpickler h) (λ key. load_get key (unpickler h)))) (sym (plain_int arg v))
    (memo_get_good h kind.None (number_of form.Decimal arg))
opcode_good h op.BinGet arg v = memo_get_good h kind.None (number_of form.Uint1 arg)
opcode_good h op.LongBinGet arg v = memo_get_good h kind.None (number_of form.Uint4 arg)
opcode_good h op.Put arg v =
    subst (λ (x : Option ℕ). RowGood h (row.Put (number_of form.Decimal arg)) kind.None h.proto (with_int x (unpickler h) (λ key. load_put h.w key (unpickler h)))) (sym (plain_int arg v))
    (put_good h kind.None (number_of form.Decimal arg))
opcode_good h op.BinPut arg v = put_good h kind.None (number_of form.Uint1 arg)
opcode_good h op.LongBinPut arg v = put_good h kind.None (number_of form.Uint4 arg)
opcode_good h op.Memoize arg v = memoize_good h kind.None
opcode_good h op.Append arg v = append_good h kind.None
opcode_good h op.Appends arg v = appends_good h kind.None
opcode_good h op.SetItem arg v = setitem_good h kind.None
opcode_good h op.SetItems arg v = setitems_good h kind.None
opcode_good h op.AddItems arg v = additems_good h kind.None
opcode_good h op.Build arg v = build_good h kind.None
opcode_good h op.Mark arg v = mark_good h kind.None
opcode_good h op.Stop arg v = stop_good h kind.None
opcode_good h o arg v = literal_good h (literal_of o arg) refl (λ vs. refl)
