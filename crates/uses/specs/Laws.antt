pub mod PushDefault
